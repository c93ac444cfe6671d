-- Words are compared one after another, and each choice is the definition's.
-- Assumes nothing.
use Prim.Native.Nat.{ℕ, ◌+◌, ◌-◌, ◌*◌, ◌≤◌, ◌<◌}
use mathlib.Core.Bool.{Bool, true, false}
use mathlib.Core.List.{List, [], ◌∷◌}
use mathlib.Core.Path.{◌≡◌, refl, sym, ap, subst, ◌∙◌}
use native.Mathlib.Numerals.{add-one}
use native.Mathlib.Omega.{arith}
use borrow.Author.Tests.{lt-ltb, le-ltb, eq-eqb, ne_eqb, eqb-true}
use lib.Bits.{bit_and, bit_or}
use lib.Dec.{eqb}
use lib.ListN.{length, length-drop, get_or, take, drop, drop_of_length-le}
use lib.Seq.{drop-cons, take_all}
use Rattle.std.specs.Prelude.{Option, Some, None, is_some}
use Rattle.prelude.proofs.Cases.{split, never, and_left, and_right}
use Rattle.prelude.proofs.Picks.{pick_true, pick_false, and_yes}
use Rattle.prelude.specs.Pick.{pick}
use Rattle.tokens.specs.Words.{same_bytes}
use Rattle.command_words.specs.declared.arguments.Command.{Command}
use Rattle.command_words.specs.declared.arguments.Command.TheVariants.{Help, Version, Lines, Quote, Unquote, Json8, Strings, Tsv8, Unknown}
use Rattle.command_words.specs.declared.arguments.Fault.{Fault}
use Rattle.command_words.specs.declared.arguments.Fault.TheVariants.{NoOption, SecondFile, BadSize, LineAndLines}
use Rattle.command_words.specs.declared.arguments.Options.{Options}
use Rattle.command_words.specs.Arguments.{is_word, reader_of, command_of, json, help, pieces, line, lines, nul, option_of, piece_max, size_from, size_of, with_fault, with_size, with_file, with_option, size_at, has_size, with_sized, is_option, with_end, with_word, unsized, with_argument, with_long, all_checked}

-- what is told of two words that are compared
abbrev Same : Bool → List ℕ → List ℕ → Type 0
Same r a b = (r ≡ true → a ≡ b) × (a ≡ b → r ≡ true)

same_self : (s : List ℕ) → same_bytes s s ≡ true
unfolding same_bytes
same_self [] = refl
same_self (x ∷ s) = and_yes (eqb x x) (same_bytes s s) (eq-eqb x x refl) (same_self s)

same_list : (a b : List ℕ) → same_bytes a b ≡ true → a ≡ b
unfolding same_bytes
same_list [] [] e = refl
same_list [] (y ∷ t) e = never (let z : false ≡ true = e in cc)
same_list (x ∷ s) [] e = never (let z : false ≡ true = e in cc)
same_list (x ∷ s) (y ∷ t) e =
    let p : x ≡ y = eqb-true x y (and_left (eqb x y) (same_bytes s t) e) in
    let q : s ≡ t = same_list s t (and_right (eqb x y) (same_bytes s t) e) in
    λ i. p i ∷ q i

pub told : {r : Bool} {a b : List ℕ} → Same r a b → r ≡ same_bytes a b
told {r} {a} {b} p =
    split r
    (λ e. e ∙ sym (subst (λ (x : List ℕ). same_bytes a x ≡ true) (p.0 e) (same_self a)))
    (λ e. e ∙ sym (split (same_bytes a b) (λ q. never (let z : false ≡ true = sym e ∙ p.1 (same_list a b q) in cc)) (λ q. q)))

pub alike : {r : Bool} {a b : List ℕ} → Same r a b → r ≡ true → same_bytes a b ≡ true
alike p e = sym (told p) ∙ e

pub differ : {r : Bool} {a b : List ℕ} → Same r a b → r ≡ false → same_bytes a b ≡ false
differ p e = sym (told p) ∙ e

pub reader_1 : (word : List ℕ) → is_word word "lines" ≡ true → Lines ≡ reader_of word
unfolding reader_of
reader_1 word e = sym (pick_true _ _ _ e)

pub reader_2 : (word : List ℕ) → is_word word "lines" ≡ false → is_word word "quote" ≡ true → Quote ≡ reader_of word
unfolding reader_of
reader_2 word e1 e = sym (pick_false _ _ _ e1 ∙ pick_true _ _ _ e)

pub reader_3 : (word : List ℕ) → is_word word "lines" ≡ false → is_word word "quote" ≡ false → is_word word "unquote" ≡ true → Unquote ≡ reader_of word
unfolding reader_of
reader_3 word e1 e2 e = sym (pick_false _ _ _ e1 ∙ pick_false _ _ _ e2 ∙ pick_true _ _ _ e)

pub reader_4 : (word : List ℕ) → is_word word "lines" ≡ false → is_word word "quote" ≡ false → is_word word "unquote" ≡ false → is_word word "json8" ≡ true → Json8 ≡ reader_of word
unfolding reader_of
reader_4 word e1 e2 e3 e = sym (pick_false _ _ _ e1 ∙ pick_false _ _ _ e2 ∙ pick_false _ _ _ e3 ∙ pick_true _ _ _ e)

pub reader_5 : (word : List ℕ) → is_word word "lines" ≡ false → is_word word "quote" ≡ false → is_word word "unquote" ≡ false → is_word word "json8" ≡ false → is_word word "strings" ≡ true → Strings ≡ reader_of word
unfolding reader_of
reader_5 word e1 e2 e3 e4 e = sym (pick_false _ _ _ e1 ∙ pick_false _ _ _ e2 ∙ pick_false _ _ _ e3 ∙ pick_false _ _ _ e4 ∙ pick_true _ _ _ e)

pub reader_6 : (word : List ℕ) → is_word word "lines" ≡ false → is_word word "quote" ≡ false → is_word word "unquote" ≡ false → is_word word "json8" ≡ false → is_word word "strings" ≡ false → is_word word "tsv8" ≡ true → Tsv8 ≡ reader_of word
unfolding reader_of
reader_6 word e1 e2 e3 e4 e5 e = sym (pick_false _ _ _ e1 ∙ pick_false _ _ _ e2 ∙ pick_false _ _ _ e3 ∙ pick_false _ _ _ e4 ∙ pick_false _ _ _ e5 ∙ pick_true _ _ _ e)

pub reader_7 : (word : List ℕ) → is_word word "lines" ≡ false → is_word word "quote" ≡ false → is_word word "unquote" ≡ false → is_word word "json8" ≡ false → is_word word "strings" ≡ false → is_word word "tsv8" ≡ false → Unknown ≡ reader_of word
unfolding reader_of
reader_7 word e1 e2 e3 e4 e5 e6 = sym (pick_false _ _ _ e1 ∙ pick_false _ _ _ e2 ∙ pick_false _ _ _ e3 ∙ pick_false _ _ _ e4 ∙ pick_false _ _ _ e5 ∙ pick_false _ _ _ e6)

pub named_1 : (word : List ℕ) → is_word word "help" ≡ true → Help ≡ command_of word
unfolding command_of
named_1 word e = sym (pick_true _ _ _ e)

pub named_2 : (word : List ℕ) → is_word word "help" ≡ false → is_word word "--help" ≡ true → Help ≡ command_of word
unfolding command_of
named_2 word e1 e = sym (pick_false _ _ _ e1 ∙ pick_true _ _ _ e)

pub named_3 : (word : List ℕ) → is_word word "help" ≡ false → is_word word "--help" ≡ false → is_word word "-h" ≡ true → Help ≡ command_of word
unfolding command_of
named_3 word e1 e2 e = sym (pick_false _ _ _ e1 ∙ pick_false _ _ _ e2 ∙ pick_true _ _ _ e)

pub named_4 : (word : List ℕ) → is_word word "help" ≡ false → is_word word "--help" ≡ false → is_word word "-h" ≡ false → is_word word "--version" ≡ true → Version ≡ command_of word
unfolding command_of
named_4 word e1 e2 e3 e = sym (pick_false _ _ _ e1 ∙ pick_false _ _ _ e2 ∙ pick_false _ _ _ e3 ∙ pick_true _ _ _ e)

pub named_5 : (word : List ℕ) (r : Command) → is_word word "help" ≡ false → is_word word "--help" ≡ false → is_word word "-h" ≡ false → is_word word "--version" ≡ false → r ≡ reader_of word → r ≡ command_of word
unfolding command_of
named_5 word r e1 e2 e3 e4 e = e ∙ sym (pick_false _ _ _ e1 ∙ pick_false _ _ _ e2 ∙ pick_false _ _ _ e3 ∙ pick_false _ _ _ e4)

pub option_1 : (word : List ℕ) → is_word word "--json" ≡ true → json ≡ option_of word
unfolding option_of
option_1 word e = sym (pick_true _ _ _ e)

pub option_2 : (word : List ℕ) → is_word word "--json" ≡ false → is_word word "--help" ≡ true → help ≡ option_of word
unfolding option_of
option_2 word e1 e = sym (pick_false _ _ _ e1 ∙ pick_true _ _ _ e)

pub option_3 : (word : List ℕ) → is_word word "--json" ≡ false → is_word word "--help" ≡ false → is_word word "-h" ≡ true → help ≡ option_of word
unfolding option_of
option_3 word e1 e2 e = sym (pick_false _ _ _ e1 ∙ pick_false _ _ _ e2 ∙ pick_true _ _ _ e)

pub option_4 : (word : List ℕ) → is_word word "--json" ≡ false → is_word word "--help" ≡ false → is_word word "-h" ≡ false → is_word word "--pieces" ≡ true → pieces ≡ option_of word
unfolding option_of
option_4 word e1 e2 e3 e = sym (pick_false _ _ _ e1 ∙ pick_false _ _ _ e2 ∙ pick_false _ _ _ e3 ∙ pick_true _ _ _ e)

pub option_5 : (word : List ℕ) → is_word word "--json" ≡ false → is_word word "--help" ≡ false → is_word word "-h" ≡ false → is_word word "--pieces" ≡ false → is_word word "--line" ≡ true → line ≡ option_of word
unfolding option_of
option_5 word e1 e2 e3 e4 e = sym (pick_false _ _ _ e1 ∙ pick_false _ _ _ e2 ∙ pick_false _ _ _ e3 ∙ pick_false _ _ _ e4 ∙ pick_true _ _ _ e)

pub option_6 : (word : List ℕ) → is_word word "--json" ≡ false → is_word word "--help" ≡ false → is_word word "-h" ≡ false → is_word word "--pieces" ≡ false → is_word word "--line" ≡ false → is_word word "--lines" ≡ true → lines ≡ option_of word
unfolding option_of
option_6 word e1 e2 e3 e4 e5 e = sym (pick_false _ _ _ e1 ∙ pick_false _ _ _ e2 ∙ pick_false _ _ _ e3 ∙ pick_false _ _ _ e4 ∙ pick_false _ _ _ e5 ∙ pick_true _ _ _ e)

pub option_7 : (word : List ℕ) → is_word word "--json" ≡ false → is_word word "--help" ≡ false → is_word word "-h" ≡ false → is_word word "--pieces" ≡ false → is_word word "--line" ≡ false → is_word word "--lines" ≡ false → is_word word "-0" ≡ true → nul ≡ option_of word
unfolding option_of
option_7 word e1 e2 e3 e4 e5 e6 e = sym (pick_false _ _ _ e1 ∙ pick_false _ _ _ e2 ∙ pick_false _ _ _ e3 ∙ pick_false _ _ _ e4 ∙ pick_false _ _ _ e5 ∙ pick_false _ _ _ e6 ∙ pick_true _ _ _ e)

pub option_8 : (word : List ℕ) → is_word word "--json" ≡ false → is_word word "--help" ≡ false → is_word word "-h" ≡ false → is_word word "--pieces" ≡ false → is_word word "--line" ≡ false → is_word word "--lines" ≡ false → is_word word "-0" ≡ false → 0 ≡ option_of word
unfolding option_of
option_8 word e1 e2 e3 e4 e5 e6 e7 = sym (pick_false _ _ _ e1 ∙ pick_false _ _ _ e2 ∙ pick_false _ _ _ e3 ∙ pick_false _ _ _ e4 ∙ pick_false _ _ _ e5 ∙ pick_false _ _ _ e6 ∙ pick_false _ _ _ e7)

-- a size, digit by digit
pub record Counted (word : List ℕ) (size i : ℕ) : Type 0 where
  pub inside : i ≤ length word
  pub few : size ≤ piece_max
  pub same : size_of word ≡ size_from size (drop i word)

pub counted_first : (word : List ℕ) → Counted word 0 0
counted_first word = record { inside = omega arith; few = omega arith; same = refl }

module _ (word : List ℕ) (size i : ℕ) (l : Counted word size i) where
  module _ (h : length word ≤ i) where
    ended : size_of word ≡ size_from size []
    ended = l.same ∙ ap (size_from size) (drop_of_length-le word h)

    pub counted_none : size ≡ 0 → None ≡ size_of word
    unfolding size_from
    counted_none e = sym (ended ∙ pick_true _ _ _ (eq-eqb size 0 e))

    pub counted_some : (size ≡ 0 → ⊥) → Some size ≡ size_of word
    unfolding size_from
    counted_some e = sym (ended ∙ pick_false _ _ _ (ne_eqb size 0 e))

  module _ (h : i < length word) where
    here : drop i word ≡ get_or word i 0 ∷ drop (i + 1) word
    here = rw add-one (drop-cons word i 0 h)

    pub counted_low : get_or word i 0 < 48 → None ≡ size_of word
    unfolding size_from
    counted_low a = sym (l.same ∙ ap (size_from size) here ∙ pick_true _ _ _ (lt-ltb (get_or word i 0) 48 a))

    module _ (a : 48 ≤ get_or word i 0) where
      pub counted_high : 57 < get_or word i 0 → None ≡ size_of word
      unfolding size_from
      counted_high b = sym (l.same ∙ ap (size_from size) here ∙ pick_false _ _ _ (le-ltb (get_or word i 0) 48 a) ∙ pick_true _ _ _ (lt-ltb 57 (get_or word i 0) b))

      module _ (b : get_or word i 0 ≤ 57) where
        pub counted_over : piece_max < 10 * size + (get_or word i 0 - 48) → None ≡ size_of word
        unfolding size_from
        counted_over c =
            sym (l.same ∙ ap (size_from size) here ∙ pick_false _ _ _ (le-ltb (get_or word i 0) 48 a) ∙ pick_false _ _ _ (le-ltb 57 (get_or word i 0) b)
            ∙ pick_true _ _ _ (lt-ltb piece_max (10 * size + (get_or word i 0 - 48)) c))

        pub counted_next : 10 * size + (get_or word i 0 - 48) ≤ piece_max → Counted word (10 * size + (get_or word i 0 - 48)) (i + 1)
        unfolding size_from
        counted_next c = record {
          inside = omega arith;
          few = c;
          same =
              l.same ∙ ap (size_from size) here ∙ pick_false _ _ _ (le-ltb (get_or word i 0) 48 a) ∙ pick_false _ _ _ (le-ltb 57 (get_or word i 0) b)
              ∙ pick_false _ _ _ (le-ltb piece_max (10 * size + (get_or word i 0 - 48)) c);
        }

-- options, one choice after another
module _ (o : Options) (fault : Fault) (argument : Option ℕ) where
  pub fault_kept : is_some o.wrong ≡ true → o ≡ with_fault o fault argument
  unfolding with_fault
  fault_kept e = sym (pick_true _ _ _ e)

  pub fault_first : is_some o.wrong ≡ false
      → record { flags = o.flags; size = o.size; file = o.file; wrong = Some (record { fault = fault; argument = argument }); ended = o.ended; sized = o.sized } ≡ with_fault o fault argument
  unfolding with_fault
  fault_first e = sym (pick_false _ _ _ e)

module _ (o : Options) (i : ℕ) where
  pub size_none : (size : Option ℕ) {r : Options} → size ≡ None → r ≡ with_fault o BadSize (Some i) → r ≡ with_size o size i
  unfolding with_size
  size_none size e f = f ∙ ap (λ (s : Option ℕ). with_size o s i) (sym e)

  pub size_some : (size : Option ℕ) (n : ℕ) → size ≡ Some n
      → record { flags = o.flags; size = n; file = o.file; wrong = o.wrong; ended = o.ended; sized = o.sized } ≡ with_size o size i
  unfolding with_size
  size_some size n e = ap (λ (s : Option ℕ). with_size o s i) (sym e)

  pub file_second : {r : Options} → is_some o.file ≡ true → r ≡ with_fault o SecondFile (Some i) → r ≡ with_file o i
  unfolding with_file
  file_second e f = f ∙ sym (pick_true _ _ _ e)

  pub file_first : is_some o.file ≡ false
      → record { flags = o.flags; size = o.size; file = Some i; wrong = o.wrong; ended = o.ended; sized = o.sized } ≡ with_file o i
  unfolding with_file
  file_first e = sym (pick_false _ _ _ e)

  module _ (bit known : ℕ) where
    pub option_unknown : {r : Options} → bit_and bit known ≡ 0 → r ≡ with_fault o NoOption (Some i) → r ≡ with_option o bit known i
    unfolding with_option
    option_unknown e f = f ∙ sym (pick_true _ _ _ (eq-eqb (bit_and bit known) 0 e))

    pub option_known : (bit_and bit known ≡ 0 → ⊥)
        → record { flags = bit_or o.flags bit; size = o.size; file = o.file; wrong = o.wrong; ended = o.ended; sized = eqb bit pieces } ≡ with_option o bit known i
    unfolding with_option
    option_known e = sym (pick_false _ _ _ (ne_eqb (bit_and bit known) 0 e))

  module _ (word : List ℕ) (known : ℕ) where
    pub sized_unknown : {r : Options} → bit_and known pieces ≡ 0 → r ≡ with_fault o NoOption (Some i) → r ≡ with_sized o word known i
    unfolding with_sized
    sized_unknown e f = f ∙ sym (pick_true _ _ _ (eq-eqb (bit_and known pieces) 0 e))

    module _ (e : bit_and known pieces ≡ 0 → ⊥) where
      pub sized_short : {r : Options} → length word < size_at → r ≡ with_fault o BadSize (Some i) → r ≡ with_sized o word known i
      unfolding with_sized size_from pick
      sized_short h f =
          size_none (size_of (drop size_at word)) (ap size_of (drop_of_length-le word (let z : length word ≤ size_at = omega (arith, h) in z))) f
          ∙ sym (pick_false _ _ _ (ne_eqb (bit_and known pieces) 0 e))

      pub sized_there : {r : Options} (z : Option ℕ) → z ≡ size_of (take (length word - size_at) (drop size_at word)) → r ≡ with_size o z i → r ≡ with_sized o word known i
      unfolding with_sized
      sized_there z s f =
          f ∙ ap (λ (k : Option ℕ). with_size o k i) (s ∙ ap size_of (take_all (length word - size_at) (drop size_at word) (omega (arith, length-drop size_at word))))
          ∙ sym (pick_false _ _ _ (ne_eqb (bit_and known pieces) 0 e))

    pub word_file : {r : Options} → is_option word ≡ false → r ≡ with_file o i → r ≡ with_word o word known i
    unfolding with_word
    word_file e f = f ∙ sym (pick_false _ _ _ e)

    module _ (e : is_option word ≡ true) where
      pub word_end : is_word word "--" ≡ true → with_end o ≡ with_word o word known i
      unfolding with_word
      word_end f = sym (pick_true _ _ _ e ∙ pick_true _ _ _ f)

      module _ (f : is_word word "--" ≡ false) where
        pub word_size : {r : Options} → has_size word ≡ true → r ≡ with_sized o word known i → r ≡ with_word o word known i
        unfolding with_word
        word_size g h = h ∙ sym (pick_true _ _ _ e ∙ pick_false _ _ _ f ∙ pick_true _ _ _ g)

        pub word_option : {r : Options} (bit : ℕ) → has_size word ≡ false → bit ≡ option_of word → r ≡ with_option o bit known i → r ≡ with_word o word known i
        unfolding with_word
        word_option bit g b h =
            h ∙ ap (λ (k : ℕ). with_option o k known i) b ∙ sym (pick_true _ _ _ e ∙ pick_false _ _ _ f ∙ pick_false _ _ _ g)

    pub argument_size : {r : Options} (z : Option ℕ) → o.sized ≡ true → z ≡ size_of word → r ≡ with_size (unsized o) z i → r ≡ with_argument o word known i
    unfolding with_argument
    argument_size z e s f = f ∙ ap (λ (k : Option ℕ). with_size (unsized o) k i) s ∙ sym (pick_true _ _ _ e)

    pub argument_file : {r : Options} → o.sized ≡ false → o.ended ≡ true → r ≡ with_file o i → r ≡ with_argument o word known i
    unfolding with_argument
    argument_file e g f = f ∙ sym (pick_false _ _ _ e ∙ pick_true _ _ _ g)

    pub argument_word : {r : Options} → o.sized ≡ false → o.ended ≡ false → r ≡ with_word o word known i → r ≡ with_argument o word known i
    unfolding with_argument
    argument_word e g f = f ∙ sym (pick_false _ _ _ e ∙ pick_false _ _ _ g)

  module _ (first : ℕ) where
    pub long_size : {r : Options} → o.sized ≡ true → r ≡ with_size (unsized o) None i → r ≡ with_long o first i
    unfolding with_long
    long_size e f = f ∙ sym (pick_true _ _ _ e)

    module _ (e : o.sized ≡ false) where
      pub long_ended : {r : Options} → o.ended ≡ true → r ≡ with_file o i → r ≡ with_long o first i
      unfolding with_long
      long_ended g f = f ∙ sym (pick_false _ _ _ e ∙ pick_true _ _ _ g)

      module _ (g : o.ended ≡ false) where
        pub long_option : {r : Options} → first ≡ 45 → r ≡ with_fault o NoOption (Some i) → r ≡ with_long o first i
        unfolding with_long
        long_option h f = f ∙ sym (pick_false _ _ _ e ∙ pick_false _ _ _ g ∙ pick_true _ _ _ (eq-eqb first 45 h))

        pub long_file : {r : Options} → (first ≡ 45 → ⊥) → r ≡ with_file o i → r ≡ with_long o first i
        unfolding with_long
        long_file h f = f ∙ sym (pick_false _ _ _ e ∙ pick_false _ _ _ g ∙ pick_false _ _ _ (ne_eqb first 45 h))

module _ (o : Options) where
  pub checked_size : {r : Options} → o.sized ≡ true → r ≡ with_fault o BadSize None → r ≡ all_checked o
  unfolding all_checked
  checked_size e f = f ∙ sym (pick_true _ _ _ e)

  module _ (e : o.sized ≡ false) where
    pub checked_other : bit_and o.flags line ≡ 0 → o ≡ all_checked o
    unfolding all_checked
    checked_other f = sym (pick_false _ _ _ e ∙ pick_true _ _ _ (eq-eqb (bit_and o.flags line) 0 f))

    module _ (f : bit_and o.flags line ≡ 0 → ⊥) where
      pub checked_line : bit_and o.flags (lines + nul) ≡ 0 → o ≡ all_checked o
      unfolding all_checked
      checked_line g =
          sym (pick_false _ _ _ e ∙ pick_false _ _ _ (ne_eqb (bit_and o.flags line) 0 f) ∙ pick_true _ _ _ (eq-eqb (bit_and o.flags (lines + nul)) 0 g))

      pub checked_both : {r : Options} → (bit_and o.flags (lines + nul) ≡ 0 → ⊥) → r ≡ with_fault o LineAndLines None → r ≡ all_checked o
      unfolding all_checked
      checked_both g h =
          h ∙ sym (pick_false _ _ _ e ∙ pick_false _ _ _ (ne_eqb (bit_and o.flags line) 0 f) ∙ pick_false _ _ _ (ne_eqb (bit_and o.flags (lines + nul)) 0 g))

module _ (word : List ℕ) where
  pub has_short : length word < size_at → false ≡ has_size word
  unfolding has_size
  has_short h = sym (pick_true _ _ _ (lt-ltb (length word) size_at h))

  pub has_there : {r : Bool} → size_at ≤ length word → r ≡ is_word (take size_at word) "--pieces=" → r ≡ has_size word
  unfolding has_size
  has_there h e = e ∙ sym (pick_false _ _ _ (le-ltb (length word) size_at h))

  pub option_short : length word < 2 → false ≡ is_option word
  unfolding is_option
  option_short h = sym (pick_true _ _ _ (lt-ltb (length word) 2 h))

  pub option_first : 2 ≤ length word → eqb (get_or word 0 0) 45 ≡ is_option word
  unfolding is_option
  option_first h = sym (pick_false _ _ _ (le-ltb (length word) 2 h))
