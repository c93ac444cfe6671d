-- By the form (Puts).
use mathlib.Core.Path.{ap}
use Rattle.command_texts.proofs.Puts.{whole_as}
use Rattle.command_outputs.specs.declared.pages.Form.{Form}
use Rattle.command_outputs.specs.Pages.{form_text}
use Rattle.command_outputs.proofs.pages.put_form.Goals as goal

pub returns-in-Entry : goal.returns-in-Entry
returns-in-Entry c = whole_as (ap (λ (f : Form). form_text f c.args.n c.args.s.now) c.in-Entry.is) c.put_entry.ensures

pub returns-in-Raw : goal.returns-in-Raw
returns-in-Raw c = whole_as (ap (λ (f : Form). form_text f c.args.n c.args.s.now) c.in-Raw.is) c.put_ended.ensures
