-- Laws of spelled items: what stands at the front of bytes is determined.
use Rattle.std.proofs.Common.{◌≡◌, ◌≢◌, ℕ, ◌<◌, ◌≤◌, ◌⊎◌, true, false, List, [], ◌∷◌, ◌++◌, refl, sym, ap, ◌∙◌, subst, inl, inr, arith, Some, None, eqb}
use Rattle.std.specs.Char.{is_ascii_digit}
use Rattle.std.specs.Str.{all_ascii_digits}
use Rattle.std.proofs.lemmas.List.{append_assoc, append-nil}
use Rattle.std.proofs.lemmas.Bool.{and_parts, leb-true, cases_Bool, ne_eqb, eqb-true, or_cases}
use Rattle.rle_items.specs.declared.item.Item.{Item}
use Rattle.rle_items.specs.declared.item.Tag.{Tag}
use Rattle.rle_items.specs.NumberLaws.{each_digit}
use Rattle.rle_items.specs.FirstLaws.{one_run}
use Rattle.rle_items.specs.Spelling.{SpellsItem, Spells, IsNone, IsWhite, is_white, IsCount, tag_of}
use Rattle.rle_items.specs.Gaps.{gap_of, IsAtCount, IsNextItem}
use Rattle.rle_items.specs.declared.gaps.Gaps.{Gaps}
use Rattle.rle_items.specs.declared.gaps.Gaps.TheVariants as gaps

-- ---- digits

-- the digits at the front and what follows them are determined
pub one_count : (bytes d r e s : List ℕ) → IsAtCount bytes d r → IsAtCount bytes e s → (d ≡ e) × (r ≡ s)
one_count bytes d r e s p q = one_run is_ascii_digit d e r s (each_digit d p.digits_are) (each_digit e q.digits_are) p.ended q.ended (sym p.split ∙ q.split)

-- ---- counts and tags

pub digit_range : (b : ℕ) → is_ascii_digit b ≡ true → (48 ≤ b) × (b ≤ 57)
digit_range b h = let range = and_parts _ _ h in (leb-true 48 b range.0, leb-true b 57 range.1)

digit_no_tag : (b : ℕ) → 48 ≤ b → b ≤ 57 → tag_of b ≡ None
digit_no_tag b low high =
    rw (ne_eqb b 98 (λ e. omega arith), ne_eqb b 46 (λ e. omega arith), ne_eqb b 111 (λ e. omega arith), ne_eqb b 65 (λ e. omega arith), ne_eqb b 36 (λ e. omega arith)) refl

-- a tag is no digit
pub tag_no_digit : (b : ℕ) (tag : Tag) → tag_of b ≡ Some tag → is_ascii_digit b ≡ false
tag_no_digit b tag e = elim (cases_Bool (is_ascii_digit b)) [
  | inl h ↦ absurd (let range = and_parts _ _ h in let none = digit_no_tag b (leb-true 48 b range.0) (leb-true b 57 range.1) in cc)
  | inr h ↦ h
]

pub count_digits : (digits : List ℕ) (n : ℕ) → IsCount digits n → all_ascii_digits digits ≡ true
count_digits [] n h = refl
count_digits (d ∷ ds) n h = h.0.digits.digits

pub count_some : (digits : List ℕ) (n : ℕ) → IsCount digits n → 0 < n
count_some [] n h = omega arith
count_some (d ∷ ds) n h = h.1

pub one_number : (digits : List ℕ) (m n : ℕ) → IsCount digits m → IsCount digits n → m ≡ n
one_number [] m n g h = g ∙ sym h
one_number (d ∷ ds) m n g h = sym g.0.is ∙ h.0.is

pub tag_no_end : (b : ℕ) (tag : Tag) → tag_of b ≡ Some tag → b ≢ 33
tag_no_end b tag is e = let none : tag_of b ≡ None = ap tag_of e in cc

pub end_count : (ignored : List ℕ) → IsAtCount (33 ∷ ignored) [] (33 ∷ ignored)
end_count ignored = record { split = refl; digits_are = refl; ended = λ b bs e. let same : 33 ≡ b = cc in subst (λ (x : ℕ). is_ascii_digit x ≡ false) same refl }

-- ---- white space

pub digit_no_white : (b : ℕ) → is_ascii_digit b ≡ true → is_white b ≡ false
digit_no_white b h =
    let range = digit_range b h in
    rw (ne_eqb b 32 (λ e. omega arith), ne_eqb b 9 (λ e. omega arith), ne_eqb b 10 (λ e. omega arith), ne_eqb b 13 (λ e. omega arith)) refl

no_tag_at : (b n : ℕ) (tag : Tag) → tag_of n ≡ None → eqb b n ≡ true → tag_of b ≡ Some tag → ⊥
no_tag_at b n tag none e is = let same : b ≡ n = eqb-true b n e in let at : tag_of b ≡ None = ap tag_of same ∙ none in cc

white_no_tag : (b : ℕ) (tag : Tag) → tag_of b ≡ Some tag → is_white b ≡ true → ⊥
white_no_tag b tag is white = elim (or_cases _ _ white) [
  | inl h ↦ elim (or_cases _ _ h) [ inl k ↦ no_tag_at b 32 tag refl k is | inr k ↦ no_tag_at b 9 tag refl k is ]
  | inr h ↦ elim (or_cases _ _ h) [ inl k ↦ no_tag_at b 10 tag refl k is | inr k ↦ no_tag_at b 13 tag refl k is ]
]

pub tag_no_white : (b : ℕ) (tag : Tag) → tag_of b ≡ Some tag → is_white b ≡ false
tag_no_white b tag is = elim (cases_Bool (is_white b)) [ inl h ↦ absurd (white_no_tag b tag is h) | inr h ↦ h ]

pub white_no_digit : (b : ℕ) → is_white b ≡ true → is_ascii_digit b ≡ false
white_no_digit b white = elim (cases_Bool (is_ascii_digit b)) [
  | inl h ↦ absurd (let dark = digit_no_white b h in cc)
  | inr h ↦ h
]

-- no white space stands at the front
abbrev pub BeginsDark : List ℕ → Type 0
BeginsDark more = (b : ℕ) (bs : List ℕ) → more ≡ b ∷ bs → is_white b ≡ false

pub dark_byte : (b : ℕ) (bs : List ℕ) → is_white b ≡ false → BeginsDark (b ∷ bs)
dark_byte b bs dark c cs e = let same : b ≡ c = cc in subst (λ (x : ℕ). is_white x ≡ false) same dark

-- white space ends at one place
pub same_gap : (gap other m n : List ℕ) → IsWhite gap → IsWhite other → BeginsDark m → BeginsDark n → gap ++ m ≡ other ++ n → m ≡ n
same_gap gap other m n p q f g e = (one_run is_white gap other m n p q f g e).1

-- ---- items and their gaps

-- a kind of gap: nothing, or some white space
pub record IsGapKind (Gap : List ℕ → Type 0) : Type 0 where
  pub none : Gap []
  pub join : (gap other : List ℕ) → Gap gap → Gap other → Gap (gap ++ other)
  pub head : (b : ℕ) (gap : List ℕ) → Gap (b ∷ gap) → Gap (b ∷ [])
  pub tail : (b : ℕ) (gap : List ℕ) → Gap (b ∷ gap) → Gap gap
  pub white : (gap : List ℕ) → Gap gap → IsWhite gap

pub join_white : (gap other : List ℕ) → IsWhite gap → IsWhite other → IsWhite (gap ++ other)
join_white [] other p q = q
join_white (b ∷ gap) other p q = (p.0, join_white gap other p.1 q)

pub white_kind : IsGapKind IsWhite
white_kind = record { none = tt; join = join_white; head = λ b gap h. (h.0, tt); tail = λ b gap h. h.1; white = λ gap h. h }

pub none_kind : IsGapKind IsNone
none_kind = record {
  none = refl;
  join = λ gap other p q. ap (λ (bs : List ℕ). bs ++ other) p ∙ q;
  head = λ b gap h. absurd cc;
  tail = λ b gap h. absurd cc;
  white = λ gap h. subst IsWhite (sym h) tt;
}

pub kind_of : (g : Gaps) → IsGapKind (gap_of g)
kind_of gaps.None = none_kind
kind_of gaps.White = white_kind

-- a byte that is no white space is no gap
pub no_gap : (Gap : List ℕ → Type 0) → IsGapKind Gap → (more : List ℕ) → BeginsDark more → (b : ℕ) (bs : List ℕ) → more ≡ b ∷ bs → ¬ Gap (b ∷ [])
no_gap Gap kind more dark b bs e h = let white = (kind.white (b ∷ []) h).0 in let none = dark b bs e in cc

-- the tag of the next item stands behind its gaps and its digits
pub tag_behind : (Gap : List ℕ → Type 0) (rest : List ℕ) (item : Item) (tag : ℕ) (more : List ℕ) (n : IsNextItem Gap rest item tag more) → rest ≡ ((n.at.past.gap ++ n.digits) ++ n.at.next.gap) ++ (tag ∷ more)
tag_behind Gap rest item tag more n =
    n.at.past.split ∙ ap (λ (bs : List ℕ). n.at.past.gap ++ bs) (n.at.count.split ∙ ap (λ (bs : List ℕ). n.digits ++ bs) n.at.next.split)
    ∙ sym (append_assoc n.at.past.gap n.digits (n.at.next.gap ++ (tag ∷ more))) ∙ sym (append_assoc (n.at.past.gap ++ n.digits) n.at.next.gap (tag ∷ more))

module _ (Gap : List ℕ → Type 0) where
  -- the item at the front of the rest, with such a gap before its tag
  pub record IsNextApart (rest : List ℕ) (item : Item) (tag : ℕ) (more : List ℕ) : Type 0 where
    pub digits : List ℕ
    pub between : List ℕ
    pub at : IsAtCount rest digits (between ++ (tag ∷ more))
    pub gap_is : Gap between
    pub count : IsCount digits item.count
    pub tag_is : tag_of tag ≡ Some item.tag

  -- an item behind a gap
  pub record HasNext (rest : List ℕ) (item : Item) (after : List ℕ) : Type 0 where
    pub gap : List ℕ
    pub from : List ℕ
    pub split : rest ≡ gap ++ from
    pub gap_is : Gap gap
    pub dark : BeginsDark from
    pub tag : ℕ
    pub next : IsNextApart from item tag after

-- no digit stands behind white space and before a tag
no_digit_behind : (between : List ℕ) (tag : ℕ) (kind : Tag) (more : List ℕ) → IsWhite between → tag_of tag ≡ Some kind → (b : ℕ) (bs : List ℕ) → between ++ (tag ∷ more) ≡ b ∷ bs → is_ascii_digit b ≡ false
no_digit_behind [] tag kind more w is b bs e = let same : tag ≡ b = cc in subst (λ (x : ℕ). is_ascii_digit x ≡ false) same (tag_no_digit tag kind is)
no_digit_behind (c ∷ between) tag kind more w is b bs e = let same : c ≡ b = cc in subst (λ (x : ℕ). is_ascii_digit x ≡ false) same (white_no_digit c w.0)

-- one item at most is the next, and what follows it is determined
pub record IsSameNext (i j : Item) (t u : ℕ) (m n : List ℕ) : Type 0 where
  pub item : i ≡ j
  pub tag : t ≡ u
  pub more : m ≡ n

same_item : (i j : Item) → i.count ≡ j.count → Some i.tag ≡ Some j.tag → i ≡ j
same_item i j count h = let kind : i.tag ≡ j.tag = cc in λ k. record { count = count k; tag = kind k }

module _ (Gap : List ℕ → Type 0) (kind : IsGapKind Gap) where
  pub one_next : (rest : List ℕ) (i j : Item) (t u : ℕ) (m n : List ℕ) → IsNextApart Gap rest i t m → IsNextApart Gap rest j u n → IsSameNext i j t u m n
  one_next rest i j t u m n p q =
      let same = one_count rest p.digits (p.between ++ (t ∷ m)) q.digits (q.between ++ (u ∷ n)) p.at q.at in
      let tails : t ∷ m ≡ u ∷ n = same_gap p.between q.between (t ∷ m) (u ∷ n) (kind.white p.between p.gap_is) (kind.white q.between q.gap_is)
      (dark_byte t m (tag_no_white t i.tag p.tag_is)) (dark_byte u n (tag_no_white u j.tag q.tag_is)) same.1 in
      let tag : t ≡ u = cc in
      let more : m ≡ n = cc in
      let count : i.count ≡ j.count = one_number q.digits i.count j.count (subst (λ (ds : List ℕ). IsCount ds i.count) same.0 p.count) q.count in
      record { item = same_item i j count (sym p.tag_is ∙ ap tag_of tag ∙ q.tag_is); tag = tag; more = more }

  -- a count, or none, and the tag, the gaps before them told apart
  next_by : (before digits between : List ℕ) (tag : ℕ) (item : Item) (more : List ℕ) → Gap before → Gap between → IsCount digits item.count → tag_of tag ≡ Some item.tag
      → HasNext Gap (((before ++ digits) ++ between) ++ (tag ∷ more)) item more
  next_by before [] between tag item more g h count is = record {
    gap = before ++ between;
    from = tag ∷ more;
    split = ap (λ (bs : List ℕ). (bs ++ between) ++ (tag ∷ more)) (append-nil before);
    gap_is = kind.join before between g h;
    dark = dark_byte tag more (tag_no_white tag item.tag is);
    tag = tag;
    next = record {
      digits = [];
      between = [];
      at = record { split = refl; digits_are = refl; ended = no_digit_behind [] tag item.tag more tt is };
      gap_is = kind.none;
      count = count;
      tag_is = is;
    };
  }
  next_by before (d ∷ ds) between tag item more g h count is =
      let digits = count_digits (d ∷ ds) item.count count in
      record {
        gap = before;
        from = (d ∷ ds) ++ (between ++ (tag ∷ more));
        split = append_assoc (before ++ (d ∷ ds)) between (tag ∷ more) ∙ append_assoc before (d ∷ ds) (between ++ (tag ∷ more));
        gap_is = g;
        dark = dark_byte d (ds ++ (between ++ (tag ∷ more))) (digit_no_white d (and_parts _ _ digits).0);
        tag = tag;
        next = record {
          digits = d ∷ ds;
          between = between;
          at = record { split = refl; digits_are = digits; ended = no_digit_behind between tag item.tag more (kind.white between h) is };
          gap_is = h;
          count = count;
          tag_is = is;
        };
      }

  pub next_of_item : (first : List ℕ) (item : Item) → SpellsItem Gap first item → (more : List ℕ) → HasNext Gap (first ++ more) item more
  next_of_item first item s more =
      let whole : first ++ more ≡ ((s.before ++ s.digits) ++ s.between) ++ (s.tag ∷ more) = ap (λ (bs : List ℕ). bs ++ more) s.whole ∙ append_assoc ((s.before ++ s.digits) ++ s.between) (s.tag ∷ []) more in
      subst (λ (bs : List ℕ). HasNext Gap bs item more) (sym whole) (next_by s.before s.digits s.between s.tag item more s.gap_before s.gap_between s.count s.tag_is)

  -- ---- items that are spelled go on with one another

  -- the second items are the first ones and then more
  pub record GoesOnWith (items : List Item) (rest : List ℕ) (others : List Item) (last : List ℕ) : Type 0 where
    pub more : List Item
    pub between : List ℕ
    pub items_are : others ≡ items ++ more
    pub rest_is : rest ≡ between ++ last
    pub spelled : Spells Gap between more

  pub one_goes_on : (items others : List Item) (front before rest last : List ℕ) → Spells Gap front items → Spells Gap before others → front ++ rest ≡ before ++ last
      → GoesOnWith items rest others last ⊎ GoesOnWith others last items rest
  one_goes_on [] others front before rest last p q e =
      inl (record { more = others; between = before; items_are = refl; rest_is = ap (λ (bs : List ℕ). bs ++ rest) (sym p) ∙ e; spelled = q })
  one_goes_on (i ∷ items) [] front before rest last p q e =
      inr (record { more = i ∷ items; between = front; items_are = refl; rest_is = ap (λ (bs : List ℕ). bs ++ last) (sym q) ∙ sym e; spelled = p })
  one_goes_on (i ∷ items) (j ∷ others) front before rest last p q e =
      let whole : p.0 ++ (p.1.0 ++ rest) ≡ q.0 ++ (q.1.0 ++ last) =
      sym (append_assoc p.0 p.1.0 rest) ∙ ap (λ (bs : List ℕ). bs ++ rest) (sym p.1.1.0) ∙ e ∙ ap (λ (bs : List ℕ). bs ++ last) q.1.1.0 ∙ append_assoc q.0 q.1.0 last in
      let left = next_of_item p.0 i p.1.1.1.0 (p.1.0 ++ rest) in
      let right = next_of_item q.0 j q.1.1.1.0 (q.1.0 ++ last) in
      let from : left.from ≡ right.from = same_gap left.gap right.gap left.from right.from (kind.white left.gap left.gap_is) (kind.white right.gap right.gap_is) left.dark right.dark (sym left.split ∙ whole ∙ right.split) in
      let same = one_next right.from i j left.tag right.tag (p.1.0 ++ rest) (q.1.0 ++ last) (subst (λ (bs : List ℕ). IsNextApart Gap bs i left.tag (p.1.0 ++ rest)) from left.next) right.next in
      elim (one_goes_on items others p.1.0 q.1.0 rest last p.1.1.1.1 q.1.1.1.1 same.more) [
        | inl h ↦ inl (record { more = h.more; between = h.between; items_are = (λ k. sym same.item k ∷ h.items_are k); rest_is = h.rest_is; spelled = h.spelled })
        | inr h ↦ inr (record { more = h.more; between = h.between; items_are = (λ k. same.item k ∷ h.items_are k); rest_is = h.rest_is; spelled = h.spelled })
      ]

  first_next : (rest between last : List ℕ) (i : Item) (more : List Item) → rest ≡ between ++ last → (p : Spells Gap between (i ∷ more)) → HasNext Gap rest i (p.1.0 ++ last)
  first_next rest between last i more e p =
      let whole : p.0 ++ (p.1.0 ++ last) ≡ rest = sym (append_assoc p.0 p.1.0 last) ∙ ap (λ (bs : List ℕ). bs ++ last) (sym p.1.1.0) ∙ sym e in
      subst (λ (bs : List ℕ). HasNext Gap bs i (p.1.0 ++ last)) whole (next_of_item p.0 i p.1.1.1.0 (p.1.0 ++ last))

  -- what goes on goes on with an item, or not at all
  pub goes_on_by_item : (rest between last : List ℕ) (i : Item) (more : List Item) → rest ≡ between ++ last → (p : Spells Gap between (i ∷ more)) → (after : List ℕ) × HasNext Gap rest i after
  goes_on_by_item rest between last i more e p = (p.1.0 ++ last, first_next rest between last i more e p)

  -- two readings end at one place
  pub record IsSamePlace (items : List Item) (rest : List ℕ) (others : List Item) (last : List ℕ) : Type 0 where
    pub items_are : items ≡ others
    pub rest_is : rest ≡ last

  same_place_by : (items : List Item) (rest : List ℕ) (others : List Item) (last : List ℕ) (more : List Item) (between : List ℕ)
      → others ≡ items ++ more → rest ≡ between ++ last → Spells Gap between more
      → ((i : Item) (back : List Item) (after : List ℕ) → others ≡ (items ++ (i ∷ [])) ++ back → HasNext Gap rest i after → ⊥) → IsSamePlace items rest others last
  same_place_by items rest others last [] between e f p stops = record { items_are = sym (e ∙ append-nil items); rest_is = f ∙ ap (λ (bs : List ℕ). bs ++ last) p }
  same_place_by items rest others last (i ∷ more) between e f p stops = absurd (stops i more (p.1.0 ++ last) (e ∙ sym (append_assoc items (i ∷ []) more)) (first_next rest between last i more f p))

  -- where no item can follow, both readings end
  pub same_place : (items : List Item) (rest : List ℕ) (others : List Item) (last : List ℕ) → GoesOnWith items rest others last
      → ((i : Item) (back : List Item) (after : List ℕ) → others ≡ (items ++ (i ∷ [])) ++ back → HasNext Gap rest i after → ⊥) → IsSamePlace items rest others last
  same_place items rest others last h stops = same_place_by items rest others last h.more h.between h.items_are h.rest_is h.spelled stops

  -- ---- the end

  no_tag_before_end : (between : List ℕ) (tag : ℕ) (item : Item) (more ignored : List ℕ) → IsWhite between → tag_of tag ≡ Some item.tag → between ++ (tag ∷ more) ≡ 33 ∷ ignored → ⊥
  no_tag_before_end [] tag item more ignored w is e = tag_no_end tag item.tag is cc
  no_tag_before_end (b ∷ between) tag item more ignored w is e = let same : b ≡ 33 = cc in let dark : is_white b ≡ false = ap is_white same in let white = w.0 in cc

  -- no item stands where behind white space a `!` does
  pub no_next_at_end : (rest gap ignored : List ℕ) (item : Item) (after : List ℕ) → IsWhite gap → rest ≡ gap ++ (33 ∷ ignored) → HasNext Gap rest item after → ⊥
  no_next_at_end rest gap ignored item after w e n =
      let from : n.from ≡ 33 ∷ ignored = same_gap n.gap gap n.from (33 ∷ ignored) (kind.white n.gap n.gap_is) w n.dark (dark_byte 33 ignored refl) (sym n.split ∙ e) in
      let same = (one_count n.from n.next.digits (n.next.between ++ (n.tag ∷ after)) [] (33 ∷ ignored) n.next.at (subst (λ (bs : List ℕ). IsAtCount bs [] (33 ∷ ignored)) (sym from) (end_count ignored))).1 in
      no_tag_before_end n.next.between n.tag item after ignored (kind.white n.next.between n.next.gap_is) n.next.tag_is same

  -- a reading does not go on from its end
  pub end_stops : (items others : List Item) (rest gap ignored last : List ℕ) → IsWhite gap → rest ≡ gap ++ (33 ∷ ignored) → GoesOnWith items rest others last → IsSamePlace items rest others last
  end_stops items others rest gap ignored last w e h = same_place items rest others last h (λ i back after is next. no_next_at_end rest gap ignored i after w e next)

  -- items that are spelled up to a `!` are the only ones
  pub one_list : (items others : List Item) (front before gap other ignored last : List ℕ) → Spells Gap front items → Spells Gap before others → IsWhite gap → IsWhite other
      → front ++ (gap ++ (33 ∷ ignored)) ≡ before ++ (other ++ (33 ∷ last)) → items ≡ others
  one_list items others front before gap other ignored last p q v w e =
      elim (one_goes_on items others front before (gap ++ (33 ∷ ignored)) (other ++ (33 ∷ last)) p q e) [
        | inl h ↦ (end_stops items others (gap ++ (33 ∷ ignored)) gap ignored (other ++ (33 ∷ last)) v refl h).items_are
        | inr h ↦ sym (end_stops others items (other ++ (33 ∷ last)) other last (gap ++ (33 ∷ ignored)) w refl h).items_are
      ]

  -- and both readings end at one place
  pub one_end : (items others : List Item) (front before gap other ignored last : List ℕ) → Spells Gap front items → Spells Gap before others → IsWhite gap → IsWhite other
      → front ++ (gap ++ (33 ∷ ignored)) ≡ before ++ (other ++ (33 ∷ last)) → gap ++ (33 ∷ ignored) ≡ other ++ (33 ∷ last)
  one_end items others front before gap other ignored last p q v w e =
      elim (one_goes_on items others front before (gap ++ (33 ∷ ignored)) (other ++ (33 ∷ last)) p q e) [
        | inl h ↦ (end_stops items others (gap ++ (33 ∷ ignored)) gap ignored (other ++ (33 ∷ last)) v refl h).rest_is
        | inr h ↦ sym (end_stops others items (other ++ (33 ∷ last)) other last (gap ++ (33 ∷ ignored)) w refl h).rest_is
      ]
