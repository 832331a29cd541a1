-- Words without dashes.
use Rattle.std.proofs.Common.{◌≡◌, Bool, true, false, refl, [], ◌∷◌, None, Global, String}
use Rattle.std.specs.List.{find}
use Rattle.std.specs.String.{string_bytes}
use Rattle.clap.proofs.RemoveLemmas.{find-none}
use Rattle.life_words.specs.Words.{Words, has_dash, first_dash, texts_of}
use Rattle.life_words.proofs.Level.{HaveNoDash}

abbrev begins_with_dash : String Global → Bool
begins_with_dash word = has_dash (string_bytes word)

none_found : (words : Words) → find begins_with_dash words ≡ None → HaveNoDash (texts_of words)
none_found [] none = tt
none_found (w ∷ ws) none = go (begins_with_dash w) refl (none_found ws)
  where
    go : (b : Bool) → begins_with_dash w ≡ b → (find begins_with_dash ws ≡ None → HaveNoDash (texts_of ws)) → HaveNoDash (texts_of (w ∷ ws))
    go true e more = let found = rw e at none in cc
    go false e more = (e, more (rw e at none))

pub no_dashes : (words : Words) → first_dash words ≡ None → HaveNoDash (texts_of words)
no_dashes words none = none_found words (find-none begins_with_dash words none)
