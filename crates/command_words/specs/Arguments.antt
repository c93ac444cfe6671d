-- The words behind the program's name: which command they name, and its options.
-- Assumes nothing.
use Rattle.std.specs.Prelude.{ℕ, ◌+◌, ◌-◌, ◌*◌, Bool, true, false, List, [], ◌∷◌, eqb, ltb, length, get_or, take, drop, Option, Some, None, is_some}
use Prim.Native.Char.{code}
use Prim.Native.String.{String}
use Rattle.std.specs.Int.Bits.{bit_and, bit_or}
use Rattle.prelude.specs.Bytes.{ascii}
use Rattle.prelude.specs.Pick.{pick}
use Rattle.tokens.specs.Words.{same_bytes}
use Rattle.command_words.specs.declared.arguments.Command.{Command}
use Rattle.command_words.specs.declared.arguments.Command.TheVariants.{Help, Version, Lines, Quote, Unquote, Json8, Strings, Tsv8, Missing, Unknown}
use Rattle.command_words.specs.declared.arguments.Fault.{Fault}
use Rattle.command_words.specs.declared.arguments.Fault.TheVariants.{NoOption, SecondFile, BadSize, LineAndLines}
use Rattle.command_words.specs.declared.arguments.Options.{Options}

abbrev pub is_word : List ℕ → String → Bool
is_word word w = same_bytes word (ascii w)

-- a command that reads
unfoldable pub reader_of : List ℕ → Command
reader_of word =
    pick (is_word word "lines") Lines
    (pick (is_word word "quote") Quote
    (pick (is_word word "unquote") Unquote
    (pick (is_word word "json8") Json8
    (pick (is_word word "strings") Strings
    (pick (is_word word "tsv8") Tsv8
    Unknown)))))

-- the command that a word names
unfoldable pub command_of : List ℕ → Command
command_of word =
    pick (is_word word "help") Help
    (pick (is_word word "--help") Help
    (pick (is_word word "-h") Help
    (pick (is_word word "--version") Version
    (reader_of word))))

-- options, a bit for each
abbrev pub json : ℕ
json = 1

abbrev pub help : ℕ
help = 2

abbrev pub pieces : ℕ
pieces = 4

abbrev pub line : ℕ
line = 8

abbrev pub lines : ℕ
lines = 16

abbrev pub nul : ℕ
nul = 32

-- the options that a command has
abbrev pub options_of : Command → ℕ
options_of Help = json + help
options_of Version = json + help
options_of Lines = json + help + pieces
options_of Quote = json + help + line + lines + nul
options_of Unquote = json + help + lines + nul
options_of Json8 = json + help
options_of Strings = json + help
options_of Tsv8 = json + help
options_of Missing = json + help
options_of Unknown = json + help

-- the option that a word is, or none
unfoldable pub option_of : List ℕ → ℕ
option_of word =
    pick (is_word word "--json") json
    (pick (is_word word "--help") help
    (pick (is_word word "-h") help
    (pick (is_word word "--pieces") pieces
    (pick (is_word word "--line") line
    (pick (is_word word "--lines") lines
    (pick (is_word word "-0") nul
    0))))))

-- the most bytes that are read at once
abbrev pub piece_max : ℕ
piece_max = 4096

-- a number from 1 to the most, in digits behind those of a number already read
unfoldable pub size_from : ℕ → List ℕ → Option ℕ
size_from size [] = pick (eqb size 0) None (Some size)
size_from size (x ∷ r) =
    pick (ltb x (code "0")) None
    (pick (ltb (code "9") x) None
    (pick (ltb piece_max (10 * size + (x - code "0"))) None (size_from (10 * size + (x - code "0")) r)))

abbrev pub size_of : List ℕ → Option ℕ
size_of word = size_from 0 word

-- no word is read yet
abbrev pub fresh_options : Options
fresh_options = record { flags = 0; size = piece_max; file = None; wrong = None; ended = false; sized = false }

-- the first fault counts
unfoldable pub with_fault : Options → Fault → Option ℕ → Options
with_fault o fault argument =
    pick (is_some o.wrong) o
    (record { flags = o.flags; size = o.size; file = o.file; wrong = Some (record { fault = fault; argument = argument }); ended = o.ended; sized = o.sized })

unfoldable pub with_size : Options → Option ℕ → ℕ → Options
with_size o None i = with_fault o BadSize (Some i)
with_size o (Some size) i = record { flags = o.flags; size = size; file = o.file; wrong = o.wrong; ended = o.ended; sized = o.sized }

unfoldable pub with_file : Options → ℕ → Options
with_file o i =
    pick (is_some o.file) (with_fault o SecondFile (Some i))
    (record { flags = o.flags; size = o.size; file = Some i; wrong = o.wrong; ended = o.ended; sized = o.sized })

-- a known option; behind `--pieces` a size is still to come
unfoldable pub with_option : Options → ℕ → ℕ → ℕ → Options
with_option o bit known i =
    pick (eqb (bit_and bit known) 0) (with_fault o NoOption (Some i))
    (record { flags = bit_or o.flags bit; size = o.size; file = o.file; wrong = o.wrong; ended = o.ended; sized = eqb bit pieces })

-- `--pieces=N`
abbrev pub size_at : ℕ
size_at = 9

unfoldable pub has_size : List ℕ → Bool
has_size word = pick (ltb (length word) size_at) false (is_word (take size_at word) "--pieces=")

unfoldable pub with_sized : Options → List ℕ → ℕ → ℕ → Options
with_sized o word known i = pick (eqb (bit_and known pieces) 0) (with_fault o NoOption (Some i)) (with_size o (size_of (drop size_at word)) i)

-- `-` alone is standard input
unfoldable pub is_option : List ℕ → Bool
is_option word = pick (ltb (length word) 2) false (eqb (get_or word 0 0) (code "-"))

abbrev pub with_end : Options → Options
with_end o = record { flags = o.flags; size = o.size; file = o.file; wrong = o.wrong; ended = true; sized = o.sized }

-- a word where options may stand
unfoldable pub with_word : Options → List ℕ → ℕ → ℕ → Options
with_word o word known i =
    pick (is_option word) (pick (is_word word "--") (with_end o) (pick (has_size word) (with_sized o word known i) (with_option o (option_of word) known i)))
    (with_file o i)

-- a size comes no more
abbrev pub unsized : Options → Options
unsized o = record { flags = o.flags; size = o.size; file = o.file; wrong = o.wrong; ended = o.ended; sized = false }

-- the i-th argument, for a command with the options `known`
unfoldable pub with_argument : Options → List ℕ → ℕ → ℕ → Options
with_argument o word known i = pick o.sized (with_size (unsized o) (size_of word) i) (pick o.ended (with_file o i) (with_word o word known i))

-- the same of a word that is longer than any option and any size, by its first byte
unfoldable pub with_long : Options → ℕ → ℕ → Options
with_long o first i =
    pick o.sized (with_size (unsized o) None i)
    (pick o.ended (with_file o i) (pick (eqb first (code "-")) (with_fault o NoOption (Some i)) (with_file o i)))

-- what can only be told of all words
unfoldable pub all_checked : Options → Options
all_checked o =
    pick o.sized (with_fault o BadSize None)
    (pick (eqb (bit_and o.flags line) 0) o (pick (eqb (bit_and o.flags (lines + nul)) 0) o (with_fault o LineAndLines None)))
