-- The class of a byte value: document 01, "One table of 256 entries sorts every byte value into its class (control, quote,
-- backslash, plain, continuation, each kind of lead, never legal); its rule is stated once over all entries."
-- Assumes nothing.
use Rattle.std.specs.Prelude.{◌≡◌, List, [], ◌∷◌, ℕ, suc, ◌<◌, ltb, eqb, get_or}
use Rattle.prelude.specs.Bytes.{double_quote, single_quote, backslash}
use Rattle.prelude.specs.Pick.{pick}

-- 0 plain, 1 control, 2 `"`, 3 `'`, 4 backslash, 5 continuation, 6 lead of two bytes, 7 lead of three, 8 the lead e0,
-- 9 the lead ed, 10 lead of four, 11 the lead f0, 12 the lead f4, 13 never legal
unfoldable pub class_of : ℕ → ℕ
class_of b =
    pick (ltb b 0x20) 1
    (pick (eqb b double_quote) 2
    (pick (eqb b single_quote) 3
    (pick (eqb b backslash) 4
    (pick (ltb b 0x80) 0
    (pick (ltb b 0xc0) 5
    (pick (ltb b 0xc2) 13
    (pick (ltb b 0xe0) 6
    (pick (eqb b 0xe0) 8
    (pick (eqb b 0xed) 9
    (pick (ltb b 0xf0) 7
    (pick (eqb b 0xf0) 11
    (pick (ltb b 0xf4) 10
    (pick (eqb b 0xf4) 12 13)))))))))))))

-- the rule of the table, over all entries
abbrev pub IsTable : List ℕ → Type 0
IsTable t = (k : ℕ) → k < 256 → get_or t k 0 ≡ class_of k

-- how many bytes at the front are plain
unfoldable pub plain_run : List ℕ → ℕ
plain_run [] = 0
plain_run (x ∷ r) = pick (eqb (class_of x) 0) (suc (plain_run r)) 0
