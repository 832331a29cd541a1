use Rattle.std.proofs.Common.{sym}
use Rattle.life_rle.proofs.Blanking.{blanked_is}
use Rattle.life_rle.proofs.comments.without_comments.Goals as goal

pub loop-byte-init : goal.loop-byte-init
loop-byte-init c = rw c.new-seen.ensures.items (sym (blanked_is c.args.text.now))
