-- By what the reader answers (Ends).
use lib.ListN.{replicate}
use Prim.Native.Nat.{ℕ}
use mathlib.Core.Path.{refl, ap, ◌∙◌}
use Rattle.command_outputs.specs.Outcomes.{refused_at}
use Rattle.command_sheets.proofs.Ends.{done_asked, cells_there, bytes_there, done_listed, refused_listed}
use Rattle.command_sheets.proofs.list.Goals as goal

pub list_cells-requires : goal.list_cells-requires
list_cells-requires c =
    done_asked c.args.text.now (replicate 192 0) (replicate 64 0) c.args.table.now c.args.store.now c.read.ensures.answer c.read.ensures.names c.read.ensures.cells c.read.ensures.store _ c.in-Ok.is

pub returns-in-Ok : goal.returns-in-Ok
returns-in-Ok c =
    record { listed = done_listed c.args.text.now (replicate 192 0) (replicate 64 0) c.args.table.now c.args.store.now c.read.ensures.answer c.read.ensures.names c.read.ensures.cells c.read.ensures.store refl refl _ c.in-Ok.is c.args.terminal c.args.page.now c.args.shown.now _ _ _ c.list_cells.ensures; cells = cells_there c.args.text.now (replicate 192 0) (replicate 64 0) c.args.table.now c.args.store.now c.read.ensures.answer c.read.ensures.names c.read.ensures.cells c.read.ensures.store refl refl; bytes = bytes_there c.args.text.now (replicate 192 0) (replicate 64 0) c.args.table.now c.args.store.now c.read.ensures.answer c.read.ensures.names c.read.ensures.cells c.read.ensures.store refl refl }

pub returns-in-Err : goal.returns-in-Err
returns-in-Err c =
    record { listed = refused_listed c.args.text.now (replicate 192 0) (replicate 64 0) c.args.table.now c.args.store.now c.read.ensures.answer c.read.ensures.names c.read.ensures.cells c.read.ensures.store refl refl _ c.in-Err.is c.args.terminal c.args.page.now c.args.shown.now _ (c.refused_at.ensures ∙ ap (λ (n : ℕ). refused_at c.args.text.now n c.in-Err.f.place) c.number.ensures); cells = cells_there c.args.text.now (replicate 192 0) (replicate 64 0) c.args.table.now c.args.store.now c.read.ensures.answer c.read.ensures.names c.read.ensures.cells c.read.ensures.store refl refl; bytes = bytes_there c.args.text.now (replicate 192 0) (replicate 64 0) c.args.table.now c.args.store.now c.read.ensures.answer c.read.ensures.names c.read.ensures.cells c.read.ensures.store refl refl }
