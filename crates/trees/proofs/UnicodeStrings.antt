-- A string token of `u''`: its node shows the bytes that the string denotes, and these are valid.
-- Assumes nothing.
use Prim.Native.Nat.{ℕ}
use mathlib.Core.Bool.{true}
use mathlib.Core.List.{List, [], ◌∷◌, ◌++◌}
use mathlib.Core.Path.{◌≡◌, refl, sym, ◌∙◌}
use native.Mathlib.Omega.{arith}
use lib.ListN.{length, drop, length-append}
use lib.Seq.{drop-append_seam}
use Rattle.prelude.proofs.Cases.{never}
use Rattle.utf8.specs.Utf8.{valid_utf8}
use Rattle.notation.specs.declared.styles.Style.TheVariants.{Unicode}
use Rattle.notation.specs.Marks.{opens, opening}
use Rattle.strings.specs.Read.{StringRead, accepted, refused as unread, read_token}
use Rattle.strings.proofs.Utf8Denoted.{Valid}
use Rattle.string_claims.proofs.Texts.{token_valid}
use Rattle.json8.specs.Nodes.{Node, got}
use Rattle.json8.specs.Leaves.{string}
use Rattle.trees.specs.Tables.{just, string_of}
use Rattle.prelude.proofs.Standing.{Stands}
use Rattle.trees.proofs.Leaves.{string_token}

module _ (text before behind bs w : List ℕ) (p n l tag : ℕ) (v : Node) where
  stands : Stands (before ++ (bs ++ behind)) (length before) bs
  stands =
      record {
        rest = behind;
        inside = omega (arith, length-append before (bs ++ behind));
        same = drop-append_seam before (bs ++ behind);
      }

  by_token : (r : StringRead) → read_token (drop p text) ≡ r → Valid r → string p n (length before) (drop p text) ≡ got l tag (v ∷ []) bs
      → string_of text (before ++ (bs ++ behind)) v ≡ just w → valid_utf8 w ≡ true
  unfolding string
  by_token (accepted ws e) t valid h m =
      let x = string_token text (length before) p ws e t in
      let g : got e 0 (x.top ∷ []) x.kept ≡ got l tag (v ∷ []) bs = sym (x.read n) ∙ h in
      let a : x.top ≡ v = cc in
      let b : x.kept ≡ bs = cc in
      let s : string_of text (before ++ (bs ++ behind)) x.top ≡ just ws = x.spelt.means (before ++ (bs ++ behind)) (rw b stands) in
      let c : ws ≡ w = cc in
      rw c at valid
  by_token (unread refusal at) t valid h m = never (let z = rw t at h in cc)

pub unicode_string :
    (text before behind bs w : List ℕ) (p n k l tag : ℕ) (v : Node) → opening (drop p text) ≡ opens Unicode k
    → string p n (length before) (drop p text) ≡ got l tag (v ∷ []) bs → string_of text (before ++ (bs ++ behind)) v ≡ just w
    → valid_utf8 w ≡ true
unicode_string text before behind bs w p n k l tag v o h m =
    by_token text before behind bs w p n l tag v (read_token (drop p text)) refl (token_valid (drop p text) k o) h m
