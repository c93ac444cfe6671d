-- Literal characters: "one well-formed UTF-8 character from 0x20 up (0x7f included) that isn't the closing quote or a backslash".
-- Assumes nothing.
use Rattle.std.specs.Prelude.{ℕ, zero, suc, List, [], ◌∷◌, ltb, eqb}
use Rattle.prelude.specs.Bytes.{backslash}
use Rattle.prelude.specs.Pick.{pick}
use Rattle.utf8.specs.Utf8.{char_len}
use Rattle.notation.specs.declared.styles.Style.{Style}
use Rattle.notation.specs.Styles.{quote}

-- the length of the literal character at the head, 0 where none stands
unfoldable pub literal_len : Style → List ℕ → ℕ
literal_len st [] = 0
literal_len st (x ∷ r) = pick (eqb x (quote st)) 0 (pick (eqb x backslash) 0 (pick (ltb x 32) 0 (char_len (x ∷ r))))

abbrev pub or_stop : ℕ → (ℕ → ℕ) → ℕ
or_stop zero next = 0
or_stop (suc n) next = suc (next n)

-- how many bytes at the front belong to literal characters; the first k belong to one already
unfoldable pub literal_run : Style → ℕ → List ℕ → ℕ
literal_run st k [] = 0
literal_run st zero (x ∷ r) = or_stop (literal_len st (x ∷ r)) (λ m. literal_run st m r)
literal_run st (suc k) (x ∷ r) = suc (literal_run st k r)
