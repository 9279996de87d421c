-- Its callees' answers, joined as the definition joins them.
use Rattle.damage.proofs.is_damaged.Goals as goal

pub returns : goal.returns
returns c =
    let allowed = c in
    rw (allowed.is_known.ensures, allowed.is_allowed.ensures, allowed.change_at.ensures, c.depth_sound.ensures, c.key_sound.ensures, c.kind_sound.ensures)
