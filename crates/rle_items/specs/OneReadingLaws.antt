-- Items are read in one way, whatever may stand between them.
use Rattle.std.proofs.Common.{◌≡◌, ◌≢◌, ℕ, ◌-◌, ◌<◌, ◌≤◌, ◌^◌, ◌⊎◌, List, [], ◌∷◌, ◌++◌, length, refl, sym, ap, ◌∙◌, subst, inl, inr, arith, Option, Some, None}
use Rattle.std.proofs.lemmas.List.{append_assoc}
use Rattle.life_cells.specs.declared.cell.Cell.{Cell}
use Rattle.rle_items.specs.declared.item.Item.{Item}
use Rattle.rle_items.specs.declared.item.Tag.{Tag}
use Rattle.rle_items.specs.declared.error.BodyError.{BodyError}
use Rattle.rle_items.specs.declared.error.BodyError.TheVariants.{BadItem, BadCount, NoEnd, TooFar, TooMany, Memory}
use Rattle.rle_items.specs.Numbers.{value}
use Rattle.rle_items.specs.Items.{live}
use Rattle.rle_items.specs.Spelling.{Spells, IsCount, tag_of}
use Rattle.rle_items.specs.Reach.{IsInReach, cursor_behind, AreFineFrom}
use Rattle.rle_items.specs.Gaps.{IsPast, IsAtCount, IsAtTag, IsNextItem}
use Rattle.rle_items.specs.ItemFaults.{HasBadCount, HasStray, EndsEarly, IsTooFar, IsTooMany, IsFault, ItemsStopWith, IsForLimit}
use Rattle.rle_items.specs.SpellingLaws.{one_count, one_number, tag_no_end, tag_no_white, end_count, dark_byte, no_gap, IsGapKind, HasNext, GoesOnWith, one_goes_on, goes_on_by_item, IsSamePlace, same_place, end_stops}

-- ---- a gap

module _ (Gap : List ℕ → Type 0) (kind : IsGapKind Gap) where
  -- a gap ends at one place
  same_end : (gap other m n : List ℕ) → Gap gap → Gap other → ((b : ℕ) (bs : List ℕ) → m ≡ b ∷ bs → ¬ Gap (b ∷ [])) → ((b : ℕ) (bs : List ℕ) → n ≡ b ∷ bs → ¬ Gap (b ∷ []))
      → gap ++ m ≡ other ++ n → m ≡ n
  same_end [] [] m n p q f g e = e
  same_end [] (b ∷ other) m n p q f g e = absurd (f b (other ++ n) e (kind.head b other q))
  same_end (b ∷ gap) [] m n p q f g e = absurd (g b (gap ++ m) (sym e) (kind.head b gap p))
  same_end (b ∷ gap) (c ∷ other) m n p q f g e = let more : gap ++ m ≡ other ++ n = cc in same_end gap other m n (kind.tail b gap p) (kind.tail c other q) f g more

  one_past : (rest m n : List ℕ) → IsPast Gap rest m → IsPast Gap rest n → m ≡ n
  one_past rest m n p q = same_end p.gap q.gap m n p.gap_is q.gap_is p.ended q.ended (sym p.split ∙ q.split)

-- ---- where a tag should stand

record IsSameTag (f g d e t u : List ℕ) : Type 0 where
  from : f ≡ g
  digits : d ≡ e
  at_tag : t ≡ u

abbrev IsEnd : List ℕ → Type 0
IsEnd at_tag = (ignored : List ℕ) × (at_tag ≡ 33 ∷ ignored)

other_end : (b : ℕ) (bs : List ℕ) → b ≢ 33 → IsEnd (b ∷ bs) → ⊥
other_end b bs other e = let split = e.1 in other cc

no_end_in_none : IsEnd [] → ⊥
no_end_in_none e = let split = e.1 in cc

module _ (Gap : List ℕ → Type 0) (kind : IsGapKind Gap) where
  one_tag : (rest f g d e t u : List ℕ) → IsAtTag Gap rest f d t → IsAtTag Gap rest g e u → IsSameTag f g d e t u
  one_tag rest f g d e t u p q =
      let from : f ≡ g = one_past Gap kind rest f g p.past q.past in
      let same = one_count g d p.more e q.more (subst (λ (bs : List ℕ). IsAtCount bs d p.more) from p.count) q.count in
      let tag : t ≡ u = one_past Gap kind q.more t u (subst (λ (bs : List ℕ). IsPast Gap bs t) same.1 p.next) q.next in
      record { from = from; digits = same.0; at_tag = tag }

  -- a good count, or none, before what should be a tag
  record HasGoodCount (rest digits : List ℕ) (number : ℕ) (at_tag : List ℕ) : Type 0 where
    from : List ℕ
    at : IsAtTag Gap rest from digits at_tag
    count : IsCount digits number
    alone : 0 < length digits → ¬ IsEnd at_tag

  good_next : (rest : List ℕ) (item : Item) (tag : ℕ) (more : List ℕ) (n : IsNextItem Gap rest item tag more) → HasGoodCount rest n.digits item.count (tag ∷ more)
  good_next rest item tag more n = record { from = n.from; at = n.at; count = n.count; alone = λ some h. other_end tag more (tag_no_end tag item.tag n.tag_is) h }

  good_or_bad : (text rest digits : List ℕ) (number : ℕ) (at_tag : List ℕ) (at : ℕ) → HasGoodCount rest digits number at_tag → HasBadCount Gap text rest at → ⊥
  good_or_bad text rest [] number at_tag at good bad =
      let same = (one_tag rest bad.from good.from bad.digits [] bad.at_tag at_tag bad.at_is good.at).digits in
      let some = bad.some in
      omega (arith, ap length same)
  good_or_bad text rest (d ∷ ds) number at_tag at good bad =
      let same = one_tag rest bad.from good.from bad.digits (d ∷ ds) bad.at_tag at_tag bad.at_is good.at in
      let natural = good.count in
      elim bad.bad [
        | inl none ↦ (let is = natural.0.is in let some = natural.1 in omega (arith, ap value same.digits))
        | inr others ↦ elim others [
          | inl long ↦ (let short = natural.0.short in omega (arith, ap length same.digits))
          | inr end ↦ good.alone (omega arith) (subst IsEnd same.at_tag end)
        ]
      ]

-- ---- what is told of a good count and what stands behind it

module _ (text : List ℕ) (place : Cell) (items : List Item) where
  -- the limit that items pass
  abbrev TellsLimit : List Item → ℕ → BodyError → Type 0
  TellsLimit all at e = ((e ≡ TooFar at) × ¬ IsInReach (cursor_behind place all)) ⊎ ((e ≡ TooMany (live all)) × (IsInReach (cursor_behind place all) × (2 ^ 18 < live all)))

  abbrev TellsByte : Option Tag → ℕ → List ℕ → ℕ → BodyError → Type 0
  TellsByte (Some tag) byte bs number e = TellsLimit (items ++ (record { count = number; tag = tag } ∷ [])) (length text - length (byte ∷ bs)) e
  TellsByte None byte bs number e = (byte ≢ 33) × (e ≡ BadItem (length text - length (byte ∷ bs)))

  abbrev Tells : List ℕ → ℕ → BodyError → Type 0
  Tells [] number e = e ≡ NoEnd
  Tells (byte ∷ bs) number e = TellsByte (tag_of byte) byte bs number e

  one_limit : (all : List Item) (at : ℕ) (e f : BodyError) → TellsLimit all at e → TellsLimit all at f → e ≡ f
  one_limit all at e f (inl p) (inl q) = p.0 ∙ sym q.0
  one_limit all at e f (inl p) (inr q) = absurd (p.1 q.1.0)
  one_limit all at e f (inr p) (inl q) = absurd (q.1 p.1.0)
  one_limit all at e f (inr p) (inr q) = p.0 ∙ sym q.0

  one_byte : (o : Option Tag) (byte : ℕ) (bs : List ℕ) (number : ℕ) (e f : BodyError) → TellsByte o byte bs number e → TellsByte o byte bs number f → e ≡ f
  one_byte (Some tag) byte bs number e f p q = one_limit (items ++ (record { count = number; tag = tag } ∷ [])) (length text - length (byte ∷ bs)) e f p q
  one_byte None byte bs number e f p q = p.1 ∙ sym q.1

  one_tells : (at_tag : List ℕ) (number : ℕ) (e f : BodyError) → Tells at_tag number e → Tells at_tag number f → e ≡ f
  one_tells [] number e f p q = p ∙ sym q
  one_tells (byte ∷ bs) number e f p q = one_byte (tag_of byte) byte bs number e f p q

  limit_told : (all : List Item) (at : ℕ) (e : BodyError) → TellsLimit all at e → IsForLimit e
  limit_told all at e (inl p) = subst IsForLimit (sym p.0) tt
  limit_told all at e (inr p) = subst IsForLimit (sym p.0) tt

  no_limit : (all : List Item) (at : ℕ) (e : BodyError) → TellsLimit all at e → IsInReach (cursor_behind place all) → live all ≤ 2 ^ 18 → ⊥
  no_limit all at e (inl p) near few = p.1 near
  no_limit all at e (inr p) near few = let many = p.1.1 in omega arith

-- ---- a fault, told so

module _ (Gap : List ℕ → Type 0) (kind : IsGapKind Gap) (text : List ℕ) (place : Cell) (rest : List ℕ) (items : List Item) where
  record IsTold (e : BodyError) : Type 0 where
    digits : List ℕ
    number : ℕ
    at_tag : List ℕ
    good : HasGoodCount Gap kind rest digits number at_tag
    is : Tells text place items at_tag number e

  record IsBadCount (e : BodyError) : Type 0 where
    at : ℕ
    is : e ≡ BadCount at
    fault : HasBadCount Gap text rest at

  stray_told : (at : ℕ) → HasStray Gap text rest at → IsTold (BadItem at)
  stray_told at h =
      let there : at ≡ length text - length (h.byte ∷ h.more) = (let p = h.place in omega arith) in
      record {
        digits = h.digits;
        number = h.number;
        at_tag = h.byte ∷ h.more;
        good = record { from = h.from; at = h.at_is; count = h.count; alone = λ some e. other_end h.byte h.more h.no_end e };
        is = rw h.no_tag (h.no_end, ap BadItem there);
      }

  early_told : EndsEarly Gap rest → IsTold NoEnd
  early_told h = record { digits = h.digits; number = h.number; at_tag = []; good = record { from = h.from; at = h.at_is; count = h.count; alone = λ some e. no_end_in_none e }; is = refl }

  far_told : (at : ℕ) → IsTooFar Gap text place rest items at → IsTold (TooFar at)
  far_told at h =
      let there : at ≡ length text - length (h.tag ∷ h.more) = (let p = h.tag_at in omega arith) in
      record {
        digits = h.next.digits;
        number = h.item.count;
        at_tag = h.tag ∷ h.more;
        good = good_next Gap kind rest h.item h.tag h.more h.next;
        is = rw h.next.tag_is (inl (ap TooFar there, h.far));
      }

  many_told : (count : ℕ) → IsTooMany Gap place rest items count → IsTold (TooMany count)
  many_told count h = record {
    digits = h.next.digits;
    number = h.item.count;
    at_tag = h.tag ∷ h.more;
    good = good_next Gap kind rest h.item h.tag h.more h.next;
    is = rw h.next.tag_is (inr (ap TooMany h.count_is, (h.near, let many = h.many in let is = h.count_is in omega arith)));
  }

  sorted : (e : BodyError) → e ≢ Memory → IsFault Gap text place rest items e → IsBadCount e ⊎ IsTold e
  sorted (BadItem at) some h = inr (stray_told at h)
  sorted (BadCount at) some h = inl (record { at = at; is = refl; fault = h })
  sorted NoEnd some h = inr (early_told h)
  sorted (TooFar at) some h = inr (far_told at h)
  sorted (TooMany count) some h = inr (many_told count h)
  sorted Memory some h = absurd (some refl)

  told_as : (e : BodyError) (t : IsTold e) (digits : List ℕ) (number : ℕ) (at_tag : List ℕ) → HasGoodCount Gap kind rest digits number at_tag → Tells text place items at_tag number e
  told_as e t digits number at_tag good =
      let same = one_tag Gap kind rest t.good.from good.from t.digits digits t.at_tag at_tag t.good.at good.at in
      let count : t.number ≡ number = one_number digits t.number number (subst (λ (ds : List ℕ). IsCount ds t.number) same.digits t.good.count) good.count in
      subst (λ (n : ℕ). Tells text place items at_tag n e) count (subst (λ (bs : List ℕ). Tells text place items bs t.number e) same.at_tag t.is)

  one_bad_count : (e f : BodyError) → IsBadCount e → IsBadCount f → e ≡ f
  one_bad_count e f p q =
      let same = one_tag Gap kind rest p.fault.from q.fault.from p.fault.digits q.fault.digits p.fault.at_tag q.fault.at_tag p.fault.at_is q.fault.at_is in
      let left = p.fault.place in
      let right = q.fault.place in
      p.is ∙ ap BadCount (omega (arith, ap length same.from)) ∙ sym q.is

  one_fault : (e f : BodyError) → e ≢ Memory → f ≢ Memory → IsFault Gap text place rest items e → IsFault Gap text place rest items f → e ≡ f
  one_fault e f some other p q =
      elim (sorted e some p) [
        | inl bad ↦ elim (sorted f other q) [
          | inl worse ↦ one_bad_count e f bad worse
          | inr good ↦ absurd (good_or_bad Gap kind text rest good.digits good.number good.at_tag bad.at good.good bad.fault)
        ]
        | inr good ↦ elim (sorted f other q) [
          | inl bad ↦ absurd (good_or_bad Gap kind text rest good.digits good.number good.at_tag bad.at good.good bad.fault)
          | inr better ↦ one_tells text place items better.at_tag better.number e f (told_as e good better.digits better.number better.at_tag better.good) better.is
        ]
      ]

  limit_of : (e : BodyError) → e ≢ Memory → IsFault Gap text place rest items e → (item : Item) (tag : ℕ) (more : List ℕ) → IsNextItem Gap rest item tag more
      → TellsLimit text place items (items ++ (item ∷ [])) (length text - length (tag ∷ more)) e
  limit_of e some fault item tag more next =
      let good = good_next Gap kind rest item tag more next in
      let P : Option Tag → Type 0 = λ o. TellsByte text place items o tag more item.count e in
      elim (sorted e some fault) [
        | inl bad ↦ absurd (good_or_bad Gap kind text rest next.digits item.count (tag ∷ more) bad.at good bad.fault)
        | inr told ↦ subst P next.tag_is (told_as e told next.digits item.count (tag ∷ more) good)
      ]

  -- no fault stands before an item within the limits
  no_fault_before_next : (e : BodyError) → e ≢ Memory → IsFault Gap text place rest items e → (item : Item) (tag : ℕ) (more : List ℕ) → IsNextItem Gap rest item tag more
      → IsInReach (cursor_behind place (items ++ (item ∷ []))) → live (items ++ (item ∷ [])) ≤ 2 ^ 18 → ⊥
  no_fault_before_next e some fault item tag more next near few =
      no_limit text place items (items ++ (item ∷ [])) (length text - length (tag ∷ more)) e (limit_of e some fault item tag more next) near few

  -- before an item only a limit is a fault
  limit_before_next : (e : BodyError) → e ≢ Memory → IsFault Gap text place rest items e → (item : Item) (tag : ℕ) (more : List ℕ) → IsNextItem Gap rest item tag more → IsForLimit e
  limit_before_next e some fault item tag more next =
      limit_told text place items (items ++ (item ∷ [])) (length text - length (tag ∷ more)) e (limit_of e some fault item tag more next)

  -- at a `!` behind a gap is none
  no_fault_at_end : (e : BodyError) → e ≢ Memory → IsFault Gap text place rest items e → (gap ignored : List ℕ) → Gap gap → rest ≡ gap ++ (33 ∷ ignored) → ⊥
  no_fault_at_end e some fault gap ignored white end =
      let dark = no_gap Gap kind (33 ∷ ignored) (dark_byte 33 ignored refl) in
      let good : HasGoodCount Gap kind rest [] 1 (33 ∷ ignored) = record {
        from = 33 ∷ ignored;
        at = record {
          more = 33 ∷ ignored;
          past = record { gap = gap; split = end; gap_is = white; ended = dark };
          count = end_count ignored;
          next = record { gap = []; split = refl; gap_is = kind.none; ended = dark };
        };
        count = refl;
        alone = λ none s. omega arith;
      } in
      elim (sorted e some fault) [
        | inl bad ↦ good_or_bad Gap kind text rest [] 1 (33 ∷ ignored) bad.at good bad.fault
        | inr told ↦ (told_as e told [] 1 (33 ∷ ignored) good).0 refl
      ]

-- ---- the items

module _ (Gap : List ℕ → Type 0) (kind : IsGapKind Gap) where
  -- an item that is spelled next stands there
  item_of_next : (rest : List ℕ) (item : Item) (after : List ℕ) (n : HasNext Gap rest item after) → IsNextItem Gap rest item n.tag after
  item_of_next rest item after n = record {
    from = n.from;
    digits = n.next.digits;
    at = record {
      more = n.next.between ++ (n.tag ∷ after);
      past = record { gap = n.gap; split = n.split; gap_is = n.gap_is; ended = no_gap Gap kind n.from n.dark };
      count = n.next.at;
      next = record {
        gap = n.next.between;
        split = refl;
        gap_is = n.next.gap_is;
        ended = no_gap Gap kind (n.tag ∷ after) (dark_byte n.tag after (tag_no_white n.tag item.tag n.next.tag_is));
      };
    };
    count = n.next.count;
    tag_is = n.next.tag_is;
  }

  module _ (text : List ℕ) (place : Cell) where
    -- a reading does not go on from a fault
    fault_stops : (rest last : List ℕ) (items others : List Item) (e : BodyError) → e ≢ Memory → IsFault Gap text place rest items e → AreFineFrom place others
        → GoesOnWith Gap kind items rest others last → IsSamePlace Gap kind items rest others last
    fault_stops rest last items others e some fault fine h =
        same_place Gap kind items rest others last h
        (λ i back after is next. no_fault_before_next Gap kind text place rest items e some fault i next.tag after (item_of_next rest i after next) (fine.near _ back is) (fine.few _ back is))

    module _ (body : List ℕ) where
      same_stop : (e f : BodyError) (p : ItemsStopWith Gap text place body e) (q : ItemsStopWith Gap text place body f) → e ≢ Memory → f ≢ Memory → IsSamePlace Gap kind p.items p.rest q.items q.rest → e ≡ f
      same_stop e f p q some other same =
          one_fault Gap kind text place q.rest q.items e f some other
          (subst (λ (is : List Item). IsFault Gap text place q.rest is e) same.items_are (subst (λ (bs : List ℕ). IsFault Gap text place bs p.items e) same.rest_is p.fault)) q.fault

      pub one_items_refusal : (e f : BodyError) → ItemsStopWith Gap text place body e → ItemsStopWith Gap text place body f → e ≢ Memory → f ≢ Memory → e ≡ f
      one_items_refusal e f p q some other =
          elim (one_goes_on Gap kind p.items q.items p.read.front q.read.front p.rest q.rest p.read.spelled q.read.spelled (sym p.read.split ∙ q.read.split)) [
            | inl h ↦ same_stop e f p q some other (fault_stops p.rest q.rest p.items q.items e some p.fault q.read.fine h)
            | inr h ↦ sym (same_stop f e q p other some (fault_stops q.rest p.rest q.items p.items f other q.fault p.read.fine h))
          ]

      -- items that are spelled up to a `!`
      module _ (e : BodyError) (some : e ≢ Memory) (p : ItemsStopWith Gap text place body e) (items : List Item) (written gap ignored : List ℕ) (gap_is : Gap gap)
          (whole : body ≡ (written ++ gap) ++ (33 ∷ ignored)) (spelled : Spells Gap written items) where
        stop_at_end : p.rest ≡ gap ++ (33 ∷ ignored) → ⊥
        stop_at_end end = no_fault_at_end Gap kind text place p.rest p.items e some p.fault gap ignored gap_is end

        goes_on : GoesOnWith Gap kind p.items p.rest items (gap ++ (33 ∷ ignored)) ⊎ GoesOnWith Gap kind items (gap ++ (33 ∷ ignored)) p.items p.rest
        goes_on = one_goes_on Gap kind p.items items p.read.front written p.rest (gap ++ (33 ∷ ignored)) p.read.spelled spelled (sym p.read.split ∙ whole ∙ append_assoc written gap (33 ∷ ignored))

        end_first : GoesOnWith Gap kind items (gap ++ (33 ∷ ignored)) p.items p.rest → ⊥
        end_first h = stop_at_end (sym (end_stops Gap kind items p.items (gap ++ (33 ∷ ignored)) gap ignored p.rest (kind.white gap gap_is) refl h).rest_is)

        -- fine ones are read to their end
        pub fine_items_are_read : AreFineFrom place items → ⊥
        fine_items_are_read fine = elim goes_on [
          | inl h ↦ stop_at_end (fault_stops p.rest (gap ++ (33 ∷ ignored)) p.items items e some p.fault fine h).rest_is
          | inr h ↦ end_first h
        ]

        stop_for_limit : (more : List Item) (between : List ℕ) → p.rest ≡ between ++ (gap ++ (33 ∷ ignored)) → Spells Gap between more → IsForLimit e
        stop_for_limit [] between f q = absurd (stop_at_end (f ∙ ap (λ (bs : List ℕ). bs ++ (gap ++ (33 ∷ ignored))) q))
        stop_for_limit (i ∷ more) between f q =
            let next = goes_on_by_item Gap kind p.rest between (gap ++ (33 ∷ ignored)) i more f q in
            limit_before_next Gap kind text place p.rest p.items e some p.fault i next.1.tag next.0 (item_of_next p.rest i next.0 next.1)

        -- others stop only at a limit
        pub said_items_are_limited : IsForLimit e
        said_items_are_limited = elim goes_on [
          | inl h ↦ stop_for_limit h.more h.between h.rest_is h.spelled
          | inr h ↦ absurd (end_first h)
        ]
