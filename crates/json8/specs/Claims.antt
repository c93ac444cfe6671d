-- What is claimed of the definition of reading JSON8, beside the contracts: each claim is a type, and proofs/Claims.antt has a term of it.
-- Assumes nothing.
use Rattle.std.specs.Prelude.{Some, None, Err, ℕ, ◌≤◌, ◌<◌, true, List, ◌⊎◌, ◌≡◌, length}
use Rattle.tokens.specs.Blanks.{blanks_from}
use Rattle.tokens.specs.declared.starts.Start.TheVariants.{String as StringStart, Word as WordStart, Number as NumberStart, List as ListStart, Dict, Nothing}
use Rattle.tokens.specs.Starts.{start_of}
use Rattle.tokens.specs.Words.{word_of, word_value}
use Rattle.tokens.specs.Numbers.{number_at}
use Rattle.json8.specs.Nodes.{Node, got, refused}
use Rattle.prelude.specs.declared.refusals.Refusal.{Refusal}
use Rattle.prelude.specs.Refusals.{too_long, cut_off, no_room, misplaced, bad_number, too_deep, too_many, refused_at, FromTo, TextFault}
use Rattle.utf8.specs.Utf8.{char_len, char_fault}
use Rattle.prelude.specs.Limits.{node_max}
use Rattle.json8.specs.Leaves.{key}
use Rattle.json8.specs.Values.{value}
use Rattle.json8.specs.Read.{read_all, read_of}

-- the table of an accepted text has at most 1,024 nodes, and the store no more bytes than the text
abbrev pub TablesFit : Type 0
TablesFit =
    (s : List ℕ) (l tag : ℕ) (ns : List Node) (bs : List ℕ) → read_all s ≡ got l tag ns bs
    → (length ns ≤ node_max) × (length bs ≤ length s)

-- a value takes at least one byte, and no more than there are
abbrev pub ValuesProgress : Type 0
ValuesProgress =
    (left p n m : ℕ) (s : List ℕ) (l tag : ℕ) (ns : List Node) (bs : List ℕ) → n ≤ node_max → value left p n m s ≡ got l tag ns bs
    → (0 < l) × (l ≤ length s)

-- a refusal's place is in the text or at its end
abbrev pub RefusalsInside : Type 0
RefusalsInside = (nodes room : ℕ) (s : List ℕ) (refusal : Refusal) (at : ℕ) → read_of nodes room s ≡ refused refusal at → at ≤ length s

-- a text is refused with 2, what a string is refused for, 13 to 16, or 12; never with 5, nor with a string text's own 3
abbrev pub Numbered : Refusal → Type 0
Numbered refusal = (refusal ≡ too_long) ⊎ (TextFault refusal ⊎ (FromTo misplaced too_many refusal ⊎ (refusal ≡ no_room)))

abbrev pub RefusalsNumbered : Type 0
RefusalsNumbered = (nodes room : ℕ) (s : List ℕ) (refusal : Refusal) (at : ℕ) → read_of nodes room s ≡ refused refusal at → Numbered refusal

-- request [2], "JSON8 .. pass it up; places stay", of comments: where no character stands, the refusal is its fault, there
abbrev pub FaultsPassedUp : Type 0
FaultsPassedUp =
    (i : ℕ) (s : List ℕ) → 0 < length s → char_len s ≡ 0
    → (fault : Refusal) × ((char_fault s ≡ Some fault) × (blanks_from true i 0 s ≡ Err (refused_at fault i)))

-- "the text ends where more is needed": refusal 4 stands at the "text length"
abbrev pub TextsCutOffAtEnd : Type 0
TextsCutOffAtEnd = (nodes room : ℕ) (s : List ℕ) (at : ℕ) → read_of nodes room s ≡ refused cut_off at → at ≡ length s

-- "At one place 3 comes first, then 11, 13, 14, 15, 16, then the rest.": 13, 14 and 15 whatever the number of nodes, and 16 whatever the
-- string
abbrev pub FaultsInOrder : Type 0
FaultsInOrder =
    (left p n m : ℕ) (s : List ℕ)
    → (start_of s ≡ Nothing → value left p n m s ≡ refused misplaced p)
    × (start_of s ≡ WordStart → word_value (word_of s) ≡ None → value left p n m s ≡ refused misplaced p)
    × (start_of s ≡ NumberStart → key p n m s ≡ refused misplaced p)
    × (start_of s ≡ NumberStart → number_at s ≡ None → value left p n m s ≡ refused bad_number p)
    × (start_of s ≡ ListStart → value 0 p n m s ≡ refused too_deep p)
    × (start_of s ≡ Dict → value 0 p n m s ≡ refused too_deep p)
    × (start_of s ≡ StringStart → node_max ≤ n → value left p n m s ≡ refused too_many p)
