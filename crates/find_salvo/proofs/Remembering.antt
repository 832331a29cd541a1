-- What is remembered stays true.
use Rattle.std.proofs.Common.{◌≡◌, Bool, true, ◌&&◌, int_eq, ℤ, inl, inr, Option, Some, None, Result, Ok, Err, sym, subst}
use Rattle.std.specs.Result.{OnOk, OnErr}
use Rattle.std.specs.Option.{IfSome, IfNone}
use Rattle.std.specs.Map.{lookup}
use Rattle.std.proofs.lemmas.Bool.{and_parts}
use Rattle.std.proofs.lemmas.Bool.Decides.{Decides-int_eq}
use Rattle.life_plane.specs.Plane.{Plane}
use Rattle.life_cells.specs.Cells.{alive}
use Rattle.life_cells.specs.Same.{same_set}
use Rattle.life_cells.specs.SameLaws.{same_set_is}
use Rattle.lru.specs.LruCache.{LruCache, lru_cache, promoted, put_entries}
use Rattle.lru.proofs.CallerLemmas.{Contains-lookup, Contains-promoted, Contains-put_entries, IsPut}
use Rattle.recipe_hit.specs.declared.frame.Hit.{Hit}
use Rattle.recipe_hit.specs.Strike.{IsHit}
use Rattle.recipe_hit.specs.Refusals.{HasNoHit}
use Rattle.find_salvo.specs.declared.strike.Strike.{Strike}
use Rattle.find_salvo.specs.Memo.{IsAnswer, AreAnswers, IsCache}

-- the test by which a strike is found: that of its cells and that of its lane
abbrev pub same_strike : Strike → Strike → Bool
same_strike a b = same_set a.left b.left && int_eq a.lane b.lane

-- strikes that pass it are equal
pub same_strike_is : (a b : Strike) → same_strike a b ≡ true → a ≡ b
same_strike_is a b h =
    let parts = and_parts (same_set a.left b.left) (int_eq a.lane b.lane) h in
    let left = same_set_is a.left b.left parts.0 in
    let lane = (Decides-int_eq a.lane b.lane).0 parts.1 in
    λ i. record { left = left i; lane = lane i }

-- this is the answer to a strike
abbrev IsAnswerTo : Option Hit → Strike → Type 0
IsAnswerTo made strike = IsAnswer (alive strike.left) strike.lane made

-- what is found under a strike is its answer
pub answer_found : (cache : LruCache Strike (Option Hit)) (strike : Strike) (made : Option Hit) → IsCache cache → lookup (same_strike strike) cache.entries ≡ Some made → IsAnswer (alive strike.left) strike.lane made
answer_found cache strike made is found =
    let on = Contains-lookup (same_strike strike) cache.entries made found in
    subst (IsAnswerTo made) (sym (same_strike_is strike on.0 on.2)) (is.answers (on.0, made) on.1)

-- a look-up changes the order alone
pub cache_promoted : (cache : LruCache Strike (Option Hit)) (strike : Strike) → IsCache cache → IsCache (lru_cache (promoted (same_strike strike) cache.entries) cache.cap)
cache_promoted cache strike is = record {
  answers = λ entry there. is.answers entry (Contains-promoted (same_strike strike) cache.entries entry there);
  cap = is.cap;
}

answers_put : (cache : LruCache Strike (Option Hit)) (strike : Strike) (made : Option Hit) → AreAnswers cache.entries → IsAnswer (alive strike.left) strike.lane made → AreAnswers (put_entries same_strike cache strike made)
answers_put cache strike made answers one entry there = elim (Contains-put_entries same_strike cache strike made entry there) [
  | inl was ↦ answers entry was
  | inr put ↦ here put
]
  where
    equal : IsPut same_strike cache strike made entry → strike ≡ entry.0
    equal put = elim put.1 [
      | inl key ↦ sym key
      | inr other ↦ same_strike_is strike entry.0 other.2
    ]

    here : IsPut same_strike cache strike made entry → IsAnswer (alive entry.0.left) entry.0.lane entry.1
    here put = subst (λ (o : Option Hit). IsAnswerTo o entry.0) (sym put.0) (subst (IsAnswerTo made) (equal put) one)

-- a true answer is added, or the cache is as it was
pub cache_put : {X E : Type 0} (r : Result X E) (old new : LruCache Strike (Option Hit)) (strike : Strike) (made : Option Hit) → IsCache old → IsAnswer (alive strike.left) strike.lane made →
    OnOk r (new ≡ lru_cache (put_entries same_strike old strike made) old.cap) → OnErr r (new ≡ old) → IsCache new
cache_put (Ok x) old new strike made is one ok err = subst IsCache (sym ok) (record { answers = answers_put old strike made is.answers one; cap = is.cap })
cache_put (Err e) old new strike made is one ok err = subst IsCache (sym err) is

-- ---- an answer, by its cases

pub none_answer : (struck : Plane) (lane : ℤ) (made : Option Hit) → IsAnswer struck lane made → IfNone made (HasNoHit struck lane)
none_answer struck lane None h = h
none_answer struck lane (Some hit) h = tt

pub answer_from : (struck : Plane) (lane : ℤ) (made : Option Hit) → IfSome made (IsHit struck lane) → IfNone made (HasNoHit struck lane) → IsAnswer struck lane made
answer_from struck lane None some none = none
answer_from struck lane (Some hit) some none = some

-- an answer to what is equal
pub same_answer : (struck other : Plane) (lane read : ℤ) (made copy : Option Hit) → other ≡ struck → read ≡ lane → copy ≡ made → IsAnswer struck lane made → IsAnswer other read copy
same_answer struck other lane read made copy at of is h =
    subst (IsAnswer other read) (sym is) (subst (λ l. IsAnswer other l made) (sym of) (subst (λ s. IsAnswer s lane made) (sym at) h))
