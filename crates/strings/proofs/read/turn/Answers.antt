-- A run that is copied and the unit behind it are the definition's turn (Reading).
use native.Mathlib.Omega.{arith}
use Rattle.strings.proofs.Reading.{run_inside, run_turned}
use Rattle.strings.proofs.read.turn.Goals as goal

pub copy_long-requires : goal.copy_long-requires
copy_long-requires c = omega (arith, c.requires.2, run_inside c.args.style c.args.s.now c.args.at c.args.o c.args.e c.args.out.now c.args.out.now c.requires.0 c.requires.2)

pub unit_turn-requires : goal.unit_turn-requires
unit_turn-requires c =
    (run_inside c.args.style c.args.s.now c.args.at c.args.o c.args.e c.args.out.now c.args.out.now c.requires.0 c.requires.2, omega (arith, c.requires.2))

pub returns : goal.returns
returns c =
    let r = run_turned c.args.style c.args.s.now c.args.at c.args.o c.args.e c.args.out.now _ c.requires.0 c.requires.2 _ _ c.copy_long.ensures (c.unit_turn.ensures.is, c.unit_turn.ensures.stored) in record { is = r.0; stored = r.1 }
