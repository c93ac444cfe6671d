-- What may stand between tokens: whitespace and comments.
-- Assumes nothing.
use Rattle.std.specs.Prelude.{ℕ, zero, suc, pred, ◌+◌, Bool, true, false, Result, Ok, Err, List, [], ◌∷◌, eqb}
use Rattle.prelude.specs.Pick.{pick}
use Rattle.prelude.specs.declared.refusals.Refusal.{Refusal}
use Rattle.prelude.specs.declared.refusals.Refused.{Refused}
use Rattle.prelude.specs.Refusals.{refused_at}
use Rattle.utf8.specs.Utf8.{char_at}

-- RFC 8259, section 2: "ws = *( %x20 / %x09 / %x0A / %x0D )"
unfoldable pub is_space : ℕ → Bool
is_space x = pick (eqb x 0x20) true (pick (eqb x 0x0a) true (pick (eqb x 0x0d) true (eqb x 0x09)))

-- what stands first: so many bytes that are passed, and whether a comment is open behind them; a token; or a refusal
pub data Passing : Type 0 where
  pass : Bool → ℕ → Passing
  token : Passing
  fault : Refusal → Passing

-- "any well-formed UTF-8"
abbrev pub in_comment : Result ℕ Refusal → Passing
in_comment (Ok n) = pass true n
in_comment (Err refusal) = fault refusal

-- the byte x, at which c is the character check's answer, in an open comment or not: "`#` comments to LF or end"
unfoldable pub passing : Bool → ℕ → Result ℕ Refusal → Passing
passing true x c = pick (eqb x 0x0a) (pass false 1) (in_comment c)
passing false x c = pick (is_space x) (pass false 1) (pick (eqb x 0x23) (pass true 1) token)

abbrev pub pass_on : ℕ → Passing → (Bool → ℕ → ℕ → Result ℕ Refused) → Result ℕ Refused
pass_on i (pass within n) go = go within (i + n) (pred n)
pass_on i token go = Ok i
pass_on i (fault refusal) go = Err (refused_at refusal i)

-- whether a comment is open, the bytes passed, and those still to be skipped
unfoldable pub blanks_from : Bool → ℕ → ℕ → List ℕ → Result ℕ Refused
blanks_from within i k [] = Ok i
blanks_from within i zero (x ∷ r) = pass_on i (passing within x (char_at (x ∷ r))) (λ o j m. blanks_from o j m r)
blanks_from within i (suc k) (x ∷ r) = blanks_from within i k r

-- how many bytes of whitespace and comments stand first, or the refusal behind so many
abbrev pub blanks : List ℕ → Result ℕ Refused
blanks s = blanks_from false 0 0 s
