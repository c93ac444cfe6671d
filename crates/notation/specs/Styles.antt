-- The three styles of a J8 string: `""`; `u''`, which `''` means; `b''`. Writing takes the first and the last.
-- Assumes nothing.
use Rattle.std.specs.Prelude.{ℕ, ◌≤◌, List, Result, Ok, Err}
use Rattle.prelude.specs.Bytes.{double_quote, single_quote}
use Rattle.prelude.specs.declared.refusals.Refusal.{Refusal}
use Rattle.utf8.specs.Utf8.{few_of}
use Rattle.notation.specs.declared.styles.Style.{Style}
use Rattle.notation.specs.declared.styles.Style.TheVariants.{Json, Unicode, Bytes}
use Rattle.notation.specs.declared.styles.Form.{Form}
use Rattle.notation.specs.declared.styles.Form.TheVariants.{AsJson, AsBytes}
use Rattle.notation.specs.declared.styles.Unit.{Unit as Found}
use Rattle.notation.specs.declared.styles.Unit.TheVariants.{Close, Took}

-- the closing quote
abbrev pub quote : Style → ℕ
quote Json = double_quote
quote Unicode = single_quote
quote Bytes = single_quote

-- the class of the quote that may stand bare: "In single-quoted styles `"` may stand bare, in `""` a `'` may."
abbrev pub bare_class : Style → ℕ
bare_class Json = 3
bare_class Unicode = 2
bare_class Bytes = 2

-- "valid UTF-8 goes as `""`", "Anything else goes as `b''`": the style that a written form is read in
abbrev pub style_of : Form → Style
style_of AsJson = Json
style_of AsBytes = Bytes

-- what stands at the head of a text: the closing quote; n bytes that denote these bytes; or a refusal, at the unit's place
pub data StringUnit : Type 0 where
  close : StringUnit
  took : ℕ → List ℕ → StringUnit
  fault : Refusal → StringUnit

-- the code's answer as such a unit
abbrev pub unit_of : Result Found Refusal → StringUnit
unit_of (Ok Close) = close
unit_of (Ok (Took n few)) = took n (few_of few)
unit_of (Err refusal) = fault refusal

-- a unit's bytes are four at most
abbrev pub FewOf : Result Found Refusal → Type 0
FewOf (Ok Close) = Unit
FewOf (Ok (Took n few)) = few.count ≤ 4
FewOf (Err refusal) = Unit
