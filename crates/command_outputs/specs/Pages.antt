-- The page: texts one behind another, printed when there is no room for the next. What the system says of printing is all that isn't told here.
-- Assumes nothing.
use Rattle.std.specs.Prelude.{ℕ, zero, suc, ◌+◌, Bool, true, false, List, [], ◌∷◌, ◌++◌, ◌≡◌, leb, ℤ, length, take, Option, Some, None, IsSome}
use Rattle.std.proofs.lemmas.List.Edits.{sets}
use Rattle.entries.specs.Entries.{entry_text}
use Rattle.command_texts.specs.Texts.{PutWhole}
use Rattle.command_outputs.specs.declared.pages.Page.{Page}
use Rattle.command_outputs.specs.declared.pages.Form.{Form}
use Rattle.command_outputs.specs.declared.pages.Form.TheVariants.{Entry, Raw}
use Rattle.command_outputs.specs.declared.outcomes.Outcome.{Outcome}
use Rattle.command_outputs.specs.declared.outcomes.Outcome.TheVariants.{Done, Unwritten}
use Rattle.command_outputs.specs.Outputs.{shown_in, is_showable}

abbrev pub fresh_page : Bool → Page
fresh_page terminal = record { at = 0; terminal = terminal; failure = None }

-- what a text becomes on the page
abbrev pub form_text : Form → ℕ → List ℕ → List ℕ
form_text Entry n s = entry_text n s
form_text (Raw end) n s = s ++ (end ∷ [])

-- what came of a page, by what the system says of it
abbrev pub failure_outcome : Option ℤ → Outcome
failure_outcome None = Done
failure_outcome (Some error) = Unwritten error

unfoldable pub page_outcome : Page → Outcome
page_outcome p = failure_outcome p.failure

-- a page that was printed: a failure stays, and there is one where what a terminal is shown of it has no room
pub record Printed (p : Page) (page : List ℕ) (shown : List ℕ) (r : Page) (new : List ℕ) : Type 0 where
  pub terminal : r.terminal ≡ p.terminal
  pub kept : IsSome p.failure → IsSome r.failure
  pub unshown : is_showable p.terminal (take p.at page) (length shown) ≡ false → IsSome r.failure
  pub stored : new ≡ shown_in p.terminal (take p.at page) shown

-- a text added: behind what is there, or on the page anew, once that is printed
pub record Behind (p : Page) (text page shown : List ℕ) (r : Page) (page' shown' : List ℕ) : Type 0 where
  pub same : r ≡ record { at = p.at + length text; terminal = p.terminal; failure = p.failure }
  pub put : page' ≡ sets page p.at text
  pub unprinted : shown' ≡ shown

pub record Anew (p : Page) (text page shown : List ℕ) (r : Page) (page' shown' : List ℕ) : Type 0 where
  pub printed : Printed p page shown r shown'
  pub put : PutWhole text 0 r.at page page'

abbrev pub Added : Page → List ℕ → List ℕ → List ℕ → Page → List ℕ → List ℕ → Type 0
Added p text page shown r page' shown' =
    (leb (p.at + length text) (length page) ≡ true → Behind p text page shown r page' shown')
    × (leb (p.at + length text) (length page) ≡ false → Anew p text page shown r page' shown')

-- a text added behind others
pub record Next (Before : Page → List ℕ → List ℕ → Type 0) (text : List ℕ) (r : Page) (page' shown' : List ℕ) : Type 0 where
  pub was : Page
  pub page : List ℕ
  pub shown : List ℕ
  pub before : Before was page shown
  pub added : Added was text page shown r page' shown'

-- texts 0 to n - 1, added in order
abbrev pub AllAdded : (ℕ → List ℕ) → ℕ → Page → List ℕ → List ℕ → Page → List ℕ → List ℕ → Type 0
AllAdded text zero p page shown r page' shown' = (r ≡ p) × (page' ≡ page) × (shown' ≡ shown)
AllAdded text (suc n) p page shown r page' shown' = Next (λ q a b. AllAdded text n p page shown q a b) (text n) r page' shown'

-- the same from an empty page on, and what is left on the page then printed: `last` is the page before that, `end` behind it
pub record AllPrinted (text : ℕ → List ℕ) (n : ℕ) (terminal : Bool) (page shown : List ℕ) (o : Outcome) (page' shown' : List ℕ) : Type 0 where
  pub last : Page
  pub left : List ℕ
  pub end : Page
  pub added : AllAdded text n (fresh_page terminal) page shown last page' left
  pub printed : Printed last page' left end shown'
  pub outcome : o ≡ page_outcome end
