-- A book has one canonical text.
use Rattle.std.proofs.Common.{◌≡◌, ℕ, neg_ℤ, List, [], ◌∷◌, ◌++◌, map, sym, ap, ◌∙◌, subst, inl, inr, codes}
use Rattle.std.specs.Fmt.{signed_decimal}
use Rattle.life_plane.specs.Plane.{Plane, nothing, shift}
use Rattle.life_cells.specs.Cells.{Cells, alive}
use Rattle.life_cells.specs.BoxLaws.{one_least_box}
use Rattle.life_cells.specs.declared.bounds.Bounds.{Bounds}
use Rattle.life_rle.specs.Written.{IsBodyText}
use Rattle.book_parts.specs.declared.kind.RawKind.{RawKind}
use Rattle.book_parts.specs.declared.salvo.RawSalvo.{RawSalvo}
use Rattle.book_parts.specs.Said.{Said}
use Rattle.book_write.specs.Laid.{text_of}
use Rattle.book_write.specs.Parts.{version_words, settings_words, IsBodyWord, IsHandLine, IsPlacedText, IsKindLine, start_words, turn_words, IsProductText, hand_words, IsSalvoLine}
use Rattle.book_write.specs.Canonical.{IsBookText}
use Rattle.book_parts.specs.ListLaws.{one_each}

-- a set has one body word, as life_rle tells
module _ (one_word : (s : Plane) (word other : List ℕ) → IsBodyText s word → IsBodyText s other → word ≡ other) where
  one_body : (s : Plane) (ws vs : List (List ℕ)) → IsBodyWord s ws → IsBodyWord s vs → ws ≡ vs
  one_body s ws vs h k = h.words_are ∙ ap (λ (w : List ℕ). w ∷ []) (one_word s h.body k.body h.body_is k.body_is) ∙ sym k.words_are

  one_hand : (hand : Cells) (ws vs : List (List ℕ)) → IsHandLine hand ws → IsHandLine hand vs → ws ≡ vs
  one_hand hand ws vs h k = h.words_are ∙ ap (λ (w : List (List ℕ)). codes "hand" ∷ w) (one_body (alive hand) h.drawn k.drawn h.drawn_is k.drawn_is) ∙ sym k.words_are

  one_placed : (s : Plane) (ws vs : List (List ℕ)) → IsPlacedText s ws → IsPlacedText s vs → ws ≡ vs
  one_placed s ws vs h k =
      let box : h.box ≡ k.box = one_least_box s h.box k.box h.box_is k.box_is in
      let same = one_body (shift (neg_ℤ k.box.left) (neg_ℤ k.box.top) s) h.drawn k.drawn (subst (λ (b : Bounds). IsBodyWord (shift (neg_ℤ b.left) (neg_ℤ b.top) s) h.drawn) box h.drawn_is) k.drawn_is in
      h.words_are ∙ (λ i. signed_decimal (box i).left ∷ (signed_decimal (box i).top ∷ same i)) ∙ sym k.words_are

  one_kind : (kind : RawKind) (ws vs : List (List ℕ)) → IsKindLine kind ws → IsKindLine kind vs → ws ≡ vs
  one_kind kind ws vs h k = h.words_are ∙ ap (λ (w : List (List ℕ)). codes "elbow" ∷ (kind.name ∷ w)) (one_placed (alive kind.cells) h.placed k.placed h.placed_is k.placed_is) ∙ sym k.words_are

  nothing_placed : (s : Plane) (ws : List (List ℕ)) → s ≡ nothing → IsPlacedText s ws → ⊥
  nothing_placed s ws none h =
      let lives = h.box_is.lives in
      let dead : s lives.0 lives.1.0 ≡ nothing lives.0 lives.1.0 = ap (λ (p : Plane). p lives.0 lives.1.0) none in
      let live = lives.1.1 in
      cc

  one_product : (s : Plane) (ws vs : List (List ℕ)) → IsProductText s ws → IsProductText s vs → ws ≡ vs
  one_product s ws vs (inl h) (inl k) = h.1 ∙ sym k.1
  one_product s ws vs (inl h) (inr k) = absurd (nothing_placed s vs h.0 k)
  one_product s ws vs (inr h) (inl k) = absurd (nothing_placed s ws k.0 h)
  one_product s ws vs (inr h) (inr k) = one_placed s ws vs h k

  one_salvo : (salvo : RawSalvo) (ws vs : List (List ℕ)) → IsSalvoLine salvo ws → IsSalvoLine salvo vs → ws ≡ vs
  one_salvo salvo ws vs h k =
      let same = one_product (alive salvo.product) h.product k.product h.product_is k.product_is in
      h.words_are ∙ (λ i. codes "salvo" ∷ (salvo.name ∷ (codes ":" ∷ (map signed_decimal salvo.lanes ++ (codes ":" ∷ (same i ++ (codes ":" ∷ hand_words salvo.hand))))))) ∙ sym k.words_are

  pub one_text : (book : Said) (text other : List ℕ) → IsBookText book text → IsBookText book other → text ≡ other
  one_text book text other h k =
      let hand = one_hand book.hand h.hand k.hand h.hand_is k.hand_is in
      let kinds = one_each IsKindLine one_kind book.kinds h.kinds k.kinds h.kinds_are k.kinds_are in
      let salvos = one_each IsSalvoLine one_salvo book.salvos h.salvos k.salvos h.salvos_are k.salvos_are in
      h.whole
      ∙ (λ i. text_of (version_words ∷ (settings_words book.settings ++ (hand i ∷ (kinds i ++ (start_words book.kinds book.start ∷ (map (turn_words book.kinds) book.turns ++ salvos i)))))))
      ∙ sym k.whole
