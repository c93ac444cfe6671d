-- A text is put behind what is on the page, or, once that is printed, on the page anew: which of both, the place behind it tells, since no text is empty.
-- Assumes nothing.
use Prim.Native.Nat.{ℕ, ◌+◌, ◌-◌, ◌≤◌, ◌<◌}
use mathlib.Core.Bool.{Bool, true, false}
use mathlib.Core.List.{List, [], ◌∷◌, ◌++◌}
use mathlib.Core.Path.{◌≡◌, refl, sym, ap, subst, ◌∙◌}
use native.Mathlib.Omega.{arith}
use borrow.Author.Tests.{le-leb, leb-true, leb-false}
use lib.Dec.{leb}
use lib.ListN.{length, length-append, take}
use lib.Seq.{sets, length-sets, take_all}
use Rattle.std.specs.Prelude.{ℤ, Option, Some}
use Rattle.prelude.proofs.Cases.{split, never}
use Rattle.prelude.proofs.Picks.{pick_true, pick_false}
use Rattle.prelude.proofs.Stores.{sets_append}
use Rattle.prelude.specs.Bytes.{ascii}
use Rattle.strings_write.specs.Write.{write_string}
use Rattle.decimals.specs.Decimals.{decimal}
use Rattle.entries.specs.Entries.{entry_text, value_text, cell_text}
use Rattle.command_texts.specs.Texts.{PutWhole}
use Rattle.command_texts.proofs.Puts.{put_whole}
use Rattle.command_outputs.specs.declared.pages.Page.{Page}
use Rattle.command_outputs.specs.declared.pages.Form.{Form}
use Rattle.command_outputs.specs.declared.pages.Form.TheVariants.{Entry, Raw}
use Rattle.command_outputs.specs.Pages.{form_text, failure_outcome, page_outcome, Printed, Added}
use Rattle.command_outputs.proofs.Printing.{Shown}

-- what came of a page
pub page_by : (p : Page) (f : Option ℤ) → p.failure ≡ f → failure_outcome f ≡ page_outcome p
unfolding page_outcome
page_by p f e = ap failure_outcome (sym e)

-- no text is empty
pub form_some : (form : Form) (n : ℕ) (s : List ℕ) → 0 < length (form_text form n s)
unfolding entry_text
form_some Entry n s = omega (arith, length-append (decimal n) (ascii "\t" ++ (write_string s ++ ascii "\n")))
form_some (Raw end) n s = omega (arith, length-append s (end ∷ []))

pub cell_some : (row : ℕ) (name : List ℕ) (quoted : Bool) (value : List ℕ) → 0 < length (cell_text row name quoted value)
unfolding cell_text
cell_some row name quoted value = omega (arith, length-append (decimal row) (ascii "\t" ++ (write_string name ++ (ascii "\t" ++ (value_text quoted value ++ ascii "\n")))))

-- a text and a byte behind it
pub put_both : (s : List ℕ) (x at : ℕ) (page : List ℕ) {e r : ℕ} {one two : List ℕ} → at ≤ length page → length s < length page - at
    → PutWhole s at e page one → PutWhole (x ∷ []) e r one two → PutWhole (s ++ (x ∷ [])) at r page two
put_both s x at page {e} {r} {one} {two} h g p q =
    let f : leb (at + length s) (length page) ≡ true = le-leb (at + length s) (length page) (omega arith) in
    let a : e ≡ at + length s = p.answer ∙ pick_true _ _ _ f in
    let b : one ≡ sets page at s = p.stored ∙ pick_true _ _ _ f in
    let l : length one ≡ length page = ap length b ∙ length-sets page at s in
    let k : leb (e + 1) (length one) ≡ true = le-leb (e + 1) (length one) (omega (arith, a, l)) in
    let m : length (s ++ (x ∷ [])) ≡ length s + 1 = length-append s (x ∷ []) in
    put_whole (s ++ (x ∷ [])) at page (omega (arith, m)) (q.answer ∙ pick_true _ _ _ k ∙ (let z : e + 1 ≡ at + length (s ++ (x ∷ [])) = omega (arith, a, m) in z))
    (q.stored ∙ pick_true _ _ _ k ∙ ap (λ (t : List ℕ). sets t e (x ∷ [])) b ∙ sets_append s (x ∷ []) page at e (sym a))

-- what is printed of a page
module _ (p : Page) (page shown : List ℕ) (n : ℕ) (f : p.at ≤ length page → n ≡ p.at) (g : length page ≤ p.at → n ≡ length page) where
  front : take n page ≡ take p.at page
  front =
      split (leb p.at (length page))
      (λ e. ap (λ (k : ℕ). take k page) (f (leb-true _ _ e)))
      (λ e.
      let l : length page < p.at = leb-false p.at (length page) e in
      take_all n page (omega (arith, g (omega arith))) ∙ sym (take_all p.at page (omega arith)))

  module _ {r : Bool} {new : List ℕ} (s : Shown p.terminal (take n page) shown r new) where
    told : Shown p.terminal (take p.at page) shown r new
    told = subst (λ (t : List ℕ). Shown p.terminal t shown r new) front s

    pub printed : r ≡ false → Printed p page shown (record { at = 0; terminal = p.terminal; failure = p.failure }) new
    printed e = record {
      terminal = refl;
      kept = λ k. k;
      unshown = λ u. never (let z : true ≡ false = sym (told.0 u) ∙ e in cc);
      stored = told.1;
    }

    pub unprinted : (error : ℤ) → Printed p page shown (record { at = 0; terminal = p.terminal; failure = Some error }) new
    unprinted error = record {
      terminal = refl;
      kept = λ k. refl;
      unshown = λ u. refl;
      stored = told.1;
    }

-- a text added, by the place that was answered
module _ (p : Page) {text : List ℕ} (some : 0 < length text) (page shown : List ℕ) {at : ℕ} {new : List ℕ} (w : PutWhole text p.at at page new) where
  pub added_behind : p.at < at → Added p text page shown (record { at = at; terminal = p.terminal; failure = p.failure }) new shown
  added_behind h = (
    λ e. record {
      same = ap (λ (k : ℕ). record { at = k; terminal = p.terminal; failure = p.failure }) (w.answer ∙ pick_true _ _ _ e);
      put = w.stored ∙ pick_true _ _ _ e;
      unprinted = refl;
    },
    λ e. absurd (omega (arith, h, w.answer ∙ pick_false _ _ _ e)),
  )

  module _ (h : at ≤ p.at) where
    full : leb (p.at + length text) (length page) ≡ false
    full =
        split (leb (p.at + length text) (length page))
        (λ e. absurd (omega (arith, h, some, w.answer ∙ pick_true _ _ _ e)))
        (λ e. e)

    same : new ≡ page
    same = w.stored ∙ pick_false _ _ _ full

    pub added_anew : (q : Page) {behind : ℕ} {shown' last : List ℕ} → Printed p new shown q shown' → PutWhole text 0 behind new last
        → Added p text page shown (record { at = behind; terminal = q.terminal; failure = q.failure }) last shown'
    added_anew q {behind} {shown'} {last} a b =
        let c : Printed p page shown q shown' = subst (λ (t : List ℕ). Printed p t shown q shown') same a in (
          λ e. never (let z : true ≡ false = sym e ∙ full in cc),
          λ e. record {
            printed = record { terminal = c.terminal; kept = c.kept; unshown = c.unshown; stored = c.stored };
            put = subst (λ (t : List ℕ). PutWhole text 0 behind t last) same b;
          },
        )
