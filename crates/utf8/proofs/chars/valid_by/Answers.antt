use native.Mathlib.Omega.{arith}
use Prim.Native.Nat.{◌-◌}
use Rattle.utf8.proofs.Validity.{here, ended, turn_stuck, turn_on, turn_less}
use Rattle.utf8.proofs.chars.valid_by.Goals as goal

pub loop-at-init : goal.loop-at-init
loop-at-init g c = here _ _ (omega arith)

pub ascii_blocks-mid-requires : goal.ascii_blocks-mid-requires
ascii_blocks-mid-requires g c = (c.loop-at.invariant.inside, c.requires)

pub soon-end-requires : goal.soon-end-requires
soon-end-requires g c = (c.ascii_blocks-mid.ensures.alike.inside, c.requires)

pub chars_until-next-requires : goal.chars_until-next-requires
chars_until-next-requires g c = (c.ascii_blocks-mid.ensures.alike.inside, c.soon-end.ensures.within.0)

pub returns-then-next-end : goal.returns-then-next-end
returns-then-next-end g c = search turn_stuck

pub returns : goal.returns
returns g c = ended _ _ c.loop-at.invariant (omega arith)
