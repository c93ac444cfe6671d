-- Units that denote one byte are added one by one to what is read: a part of a reading, and another part behind it.
-- Assumes nothing.
use Prim.Native.Nat.{ℕ, ◌+◌, ◌≤◌}
use mathlib.Core.List.{List, [], ◌∷◌, ◌++◌}
use mathlib.Core.Path.{◌≡◌, refl, sym, ap, ◌∙◌}
use native.Mathlib.Omega.{arith}
use lib.ListN.{length, drop, set, length-drop, length-append}
use lib.Seq.{sets}
use Rattle.prelude.proofs.Stores.{sets_append}
use Rattle.notation.specs.declared.styles.Style.{Style}
use Rattle.notation.specs.Styles.{took}
use Rattle.units.specs.Units.{unit_at}
use Rattle.units.proofs.Sizes.{took_size}
use Rattle.strings.specs.Read.{more, read_units}
use Rattle.strings.specs.inner.Turns.{units_bytes, Advanced}
use Rattle.strings.proofs.Steps.{read_on, more_none, more_more}
use Rattle.strings.proofs.UnitBytes.{bytes_on, bytes_then}

pub nothing_yet : (st : Style) (s : List ℕ) (from o : ℕ) (out : List ℕ) → from ≤ length s → Advanced st s from o out from o out
nothing_yet st s from o out h =
    record {
      bytes = [];
      onward = omega arith;
      inside = h;
      less = omega arith;
      count = omega arith;
      stored = refl;
      same = sym (more_none (read_units st from 0 (drop from s)));
      denoted = refl;
    }

pub one_inside : (st : Style) (s : List ℕ) (at n : ℕ) (bs : List ℕ) → at ≤ length s → unit_at st (drop at s) ≡ took n bs → at + n ≤ length s
one_inside st s at n bs h e = omega (arith, (took_size st (drop at s) n bs e).1, length-drop at s)

module _ {st : Style} {s : List ℕ} {from o : ℕ} {out : List ℕ} {at p : ℕ} {new : List ℕ} (a : Advanced st s from o out at p new) where
  pub and_one : (n b : ℕ) (next : List ℕ) → unit_at st (drop at s) ≡ took n (b ∷ []) → next ≡ set new p b → Advanced st s from o out (at + n) (p + 1) next
  and_one n b next e w =
      let size = took_size st (drop at s) n (b ∷ []) e in
      record {
        bytes = a.bytes ++ (b ∷ []);
        onward = omega (arith, a.onward);
        inside = omega (arith, size.1, length-drop at s, a.inside);
        less = omega (arith, size.0, a.less);
        count = omega (arith, a.count, length-append a.bytes (b ∷ []));
        stored = w ∙ ap (λ (l : List ℕ). set l p b) a.stored ∙ sets_append a.bytes (b ∷ []) out o p (sym a.count);
        same = read_on st (read_units st from 0 (drop from s)) s a.bytes at n (b ∷ []) a.same e;
        denoted = bytes_on st (units_bytes st 0 (drop from s)) s a.bytes at n (b ∷ []) a.denoted e;
      }

  pub and_part : (to q : ℕ) (next : List ℕ) → Advanced st s at p new to q next → Advanced st s from o out to q next
  and_part to q next d =
      record {
        bytes = a.bytes ++ d.bytes;
        onward = omega (arith, a.onward, d.onward);
        inside = d.inside;
        less = omega (arith, a.less, d.less);
        count = omega (arith, a.count, d.count, length-append a.bytes d.bytes);
        stored = d.stored ∙ ap (λ (l : List ℕ). sets l p d.bytes) a.stored ∙ sets_append a.bytes d.bytes out o p (sym a.count);
        same = a.same ∙ ap (more a.bytes) d.same ∙ more_more a.bytes d.bytes (read_units st to 0 (drop to s));
        denoted = bytes_then _ a.bytes _ d.bytes _ a.denoted d.denoted;
      }
