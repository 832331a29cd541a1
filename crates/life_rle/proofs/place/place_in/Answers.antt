use Rattle.life_rle.proofs.Placing.{first_word, later_word, last_word, no_word, split_shorter, tells_itself}
use Rattle.life_rle.proofs.place.place_in.Goals as goal

pub words-smaller : goal.words-smaller
words-smaller c = split_shorter c.words.rest.now c.in-Some.word.now c.in-Some.more.now c.in-Some.ensures.some

pub returns-in-Some-place_of : goal.returns-in-Some-place_of
returns-in-Some-place_of c =
    let found = c.in-Some-place_of.ensures.some in
    (found.0, (c.words.invariant found.0 (first_word c.words.rest.now c.in-Some.word.now c.in-Some.more.now found.0 c.in-Some.ensures.some found.1.0), found.1.1))

pub words-preserved : goal.words-preserved
words-preserved c = λ place h. c.words.invariant place (later_word c.words.rest.now c.in-Some.word.now c.in-Some.more.now place c.in-Some.ensures.some c.in_default-place_of.ensures.none h)

pub returns-in-Some-place_of-2 : goal.returns-in-Some-place_of-2
returns-in-Some-place_of-2 c =
    let found = c.in-Some-place_of-2.ensures.some in
    (found.0, (c.words.invariant found.0 (last_word c.words.rest.now found.0 c.in_default.ensures.none found.1.0), found.1.1))

pub returns-in-None : goal.returns-in-None
returns-in-None c = (_, (c.words.invariant _ (no_word c.words.rest.now c.in_default.ensures.none c.in-None.ensures.none), rw c.new.ensures (tells_itself _)))
