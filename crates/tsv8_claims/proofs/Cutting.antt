-- A text divided at its LFs beside the text cut at them: byte by byte, an LF begins a line, and another byte stands at the head of the first.
-- Assumes nothing.
use Prim.Native.Nat.{ℕ, suc}
use mathlib.Core.List.{List, [], ◌∷◌, ◌++◌, map}
use mathlib.Core.Path.{◌≡◌, refl, ap}
use lib.Dec.{eqb}
use Rattle.prelude.specs.Bytes.{LF}
use Rattle.prelude.specs.Pick.{pick}
use Rattle.prelude.proofs.Cases.{split}
use Rattle.tsv8_cells.specs.Parts.{Part, divided, parts_of}
use Rattle.j8_lines.specs.Lines.{headed, cut}

abbrev bytes_of : List Part → List (List ℕ)
bytes_of = map (λ (p : Part). p.bytes)

-- a byte more at the head
headed_alike : (b : ℕ) (f : List ℕ) (os c : List (List ℕ)) (o : List ℕ) → f ∷ os ≡ c ++ (o ∷ [])
    → (b ∷ f) ∷ os ≡ (headed b c o).closed ++ ((headed b c o).open_line ∷ [])
unfolding headed
headed_alike b f os [] o e = let x : f ≡ o = cc in let y : os ≡ [] = cc in λ i. (b ∷ x i) ∷ y i
headed_alike b f os (l ∷ c) o e = let x : f ≡ l = cc in let y : os ≡ c ++ (o ∷ []) = cc in λ i. (b ∷ x i) ∷ y i

pub cut_alike : (p : ℕ) (s : List ℕ) → bytes_of (parts_of p (divided LF p s)) ≡ (cut s).closed ++ ((cut s).open_line ∷ [])
unfolding divided cut pick
cut_alike p [] = refl
cut_alike p (b ∷ r) =
    let i = cut_alike (suc p) r in
    split (eqb b LF) (λ e. rw e (ap (λ (l : List (List ℕ)). [] ∷ l) i))
    (λ e. rw e (headed_alike b (divided LF (suc p) r).first (bytes_of (divided LF (suc p) r).others) (cut r).closed (cut r).open_line i))
