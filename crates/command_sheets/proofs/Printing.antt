-- Texts added one behind another, and printed: by their number.
-- Assumes nothing.
use Prim.Native.Nat.{ℕ, zero, suc, ◌+◌, ◌≤◌, ◌<◌}
use mathlib.Core.Bool.{Bool}
use mathlib.Core.List.{List}
use mathlib.Core.Path.{◌≡◌, refl, sym, subst}
use native.Mathlib.Numerals.{add-one}
use native.Mathlib.Omega.{arith}
use Rattle.command_outputs.specs.declared.outcomes.Outcome.{Outcome}
use Rattle.command_outputs.specs.declared.pages.Page.{Page}
use Rattle.command_outputs.specs.Pages.{fresh_page, page_outcome, Printed, Added, AllAdded, AllPrinted}

module _ (f : ℕ → List ℕ) (p : Page) (page shown : List ℕ) where
  pub all_none : AllAdded f 0 p page shown p page shown
  all_none = (refl, refl, refl)

  pub all_next : (k : ℕ) {q r : Page} {a b a' b' : List ℕ} → AllAdded f k p page shown q a b → Added q (f k) a b r a' b' → AllAdded f (k + 1) p page shown r a' b'
  all_next k {q} {r} {a} {b} {a'} {b'} x y =
      subst (λ (n : ℕ). AllAdded f n p page shown r a' b') (sym (add-one k)) (record { was = q; page = a; shown = b; before = x; added = y })

pub all_printed_lem : (f : ℕ → List ℕ) (count k : ℕ) (terminal : Bool) {p₀ p q : Page} {page₀ shown₀ page shown shown' : List ℕ} {o : Outcome} → count ≤ k → k ≤ count
    → p₀ ≡ fresh_page terminal → AllAdded f k p₀ page₀ shown₀ p page shown → Printed p page shown q shown' → o ≡ page_outcome q
    → AllPrinted f count terminal page₀ shown₀ o page shown'
all_printed_lem f count k terminal {p₀} {p} {q} {page₀} {shown₀} {page} {shown} g h e x y z =
    record {
      last = p;
      left = shown;
      end = q;
      added =
          subst (λ (n : ℕ). AllAdded f n (fresh_page terminal) page₀ shown₀ p page shown) (let w : k ≡ count = omega (arith, g, h) in w)
          (subst (λ (t : Page). AllAdded f k t page₀ shown₀ p page shown) e x);
      printed = y;
      outcome = z;
    }

-- texts that are the same one by one are added alike
pub all_same : (f g : ℕ → List ℕ) (n : ℕ) → ((k : ℕ) → k < n → f k ≡ g k) → (p : Page) (page shown : List ℕ) (r : Page) (page' shown' : List ℕ)
    → AllAdded f n p page shown r page' shown' → AllAdded g n p page shown r page' shown'
all_same f g zero e p page shown r page' shown' x = x
all_same f g (suc n) e p page shown r page' shown' x =
    record {
      was = x.was;
      page = x.page;
      shown = x.shown;
      before = all_same f g n (λ k h. e k (omega arith)) p page shown x.was x.page x.shown x.before;
      added = subst (λ (t : List ℕ). Added x.was t x.page x.shown r page' shown') (e n (omega arith)) x.added;
    }
