-- What one byte more at a text's end changes in each part of the J8 Lines definition, by induction on the text or on the lines.
-- Assumes nothing.
use Prim.Native.Nat.{ℕ, zero, suc, ◌+◌, ◌≤◌, ◌<◌}
use mathlib.Core.Bool.{Bool, true, false}
use mathlib.Core.List.{List, [], ◌∷◌, ◌++◌, append_assoc, append-nil}
use mathlib.Core.Path.{◌≡◌, refl, sym, ap, ◌∙◌}
use native.Mathlib.Nat.{zero-add, le_of_suc-le-suc, not-suc-le-zero}
use native.Mathlib.Omega.{arith}
use lib.Dec.{eqb}
use lib.ListN.{length, take, get_or, set, length-append, get_or-append, get_or-eq_default}
use lib.Seq.{take-append-le, get_or_at}
use Rattle.prelude.specs.Bytes.{LF}
use Rattle.prelude.specs.Pick.{pick}
use Rattle.records.specs.Records.{line_record, Fault, none, refuse}
use Rattle.j8_lines.specs.Lines.{Cut, headed, cut, count_lf, records, fault_of_byte, FirstFault, or_else, first_from, first_fault, last_at, line_buffer}

-- the last byte is an LF, or not
abbrev pub shut : Cut → Cut
shut c = record { closed = c.closed ++ (c.open_line ∷ []); open_line = [] }

abbrev pub longer : ℕ → Cut → Cut
longer b c = record { closed = c.closed; open_line = c.open_line ++ (b ∷ []) }

front_shut : (k : Bool) (x : ℕ) (cl : List (List ℕ)) (o : List ℕ) →
    pick k (record { closed = [] ∷ (cl ++ (o ∷ [])); open_line = [] }) (headed x (cl ++ (o ∷ [])) [])
    ≡ shut (pick k (record { closed = [] ∷ cl; open_line = o }) (headed x cl o))
unfolding headed pick
front_shut true x cl o = refl
front_shut false x [] o = refl
front_shut false x (l ∷ ls) o = refl

front_longer : (b : ℕ) (k : Bool) (x : ℕ) (cl : List (List ℕ)) (o : List ℕ) →
    pick k (record { closed = [] ∷ cl; open_line = o ++ (b ∷ []) }) (headed x cl (o ++ (b ∷ [])))
    ≡ longer b (pick k (record { closed = [] ∷ cl; open_line = o }) (headed x cl o))
unfolding headed pick
front_longer b true x cl o = refl
front_longer b false x [] o = refl
front_longer b false x (l ∷ ls) o = refl

pub cut_lf : (t : List ℕ) (b : ℕ) → eqb b LF ≡ true → cut (t ++ (b ∷ [])) ≡ shut (cut t)
unfolding cut pick
cut_lf [] b e = rw e
cut_lf (x ∷ t) b e = rw (cut_lf t b e) (front_shut (eqb x LF) x (cut t).closed (cut t).open_line)

pub cut_byte : (t : List ℕ) (b : ℕ) → eqb b LF ≡ false → cut (t ++ (b ∷ [])) ≡ longer b (cut t)
unfolding cut headed pick
cut_byte [] b e = rw e
cut_byte (x ∷ t) b e = rw (cut_byte t b e) (front_longer b (eqb x LF) x (cut t).closed (cut t).open_line)

count_front : (k : Bool) (n m : ℕ) → pick k (n + m + 1) (n + m) ≡ pick k (n + 1) n + m
unfolding pick
count_front true n m = omega arith
count_front false n m = refl

count_first : (k : Bool) → pick k (0 + 1) 0 ≡ 0 + pick k 1 0
unfolding pick
count_first true = refl
count_first false = refl

pub count_snoc : (t : List ℕ) (b : ℕ) → count_lf (t ++ (b ∷ [])) ≡ count_lf t + pick (eqb b LF) 1 0
unfolding count_lf
count_snoc [] b = count_first (eqb b LF)
count_snoc (x ∷ t) b = rw (count_snoc t b) (count_front (eqb x LF) (count_lf t) (pick (eqb b LF) 1 0))

pub records_snoc : (ls : List (List ℕ)) (l : List ℕ) → records (ls ++ (l ∷ [])) ≡ records ls ++ line_record l
unfolding records pick
records_snoc [] l = append-nil (line_record l)
records_snoc (x ∷ ls) l = rw (records_snoc ls l) (sym (append_assoc (line_record x) (records ls) (line_record l)))

pub last_snoc : (i d : ℕ) (ls : List (List ℕ)) (l : List ℕ) → last_at i d (ls ++ (l ∷ [])) ≡ get_or l i (last_at i d ls)
unfolding last_at pick
last_snoc i d [] l = refl
last_snoc i d (x ∷ ls) l = last_snoc i (get_or x i d) ls l

-- the line buffer
pub buffer_length : (ls : List (List ℕ)) (o : List ℕ) (i : ℕ) (line : List ℕ) → length (line_buffer ls o i line) ≡ length line
unfolding line_buffer pick
buffer_length ls o i [] = refl
buffer_length ls o i (d ∷ ds) = ap suc (buffer_length ls o (suc i) ds)

pub buffer_none : (i : ℕ) (line : List ℕ) → line_buffer [] [] i line ≡ line
unfolding line_buffer last_at pick
buffer_none i [] = refl
buffer_none i (d ∷ ds) = ap {B = List ℕ} (λ r. d ∷ r) (buffer_none (suc i) ds)

pub buffer_shut : (ls : List (List ℕ)) (o : List ℕ) (i : ℕ) (line : List ℕ) → line_buffer (ls ++ (o ∷ [])) [] i line ≡ line_buffer ls o i line
unfolding line_buffer pick
buffer_shut ls o i [] = refl
buffer_shut ls o i (d ∷ ds) = rw (last_snoc i d ls o, buffer_shut ls o (suc i) ds)

buffer_past : (ls : List (List ℕ)) (o : List ℕ) (b i : ℕ) (line : List ℕ) → length o < i → line_buffer ls (o ++ (b ∷ [])) i line ≡ line_buffer ls o i line
unfolding line_buffer pick
buffer_past ls o b i [] h = refl
buffer_past ls o b i (d ∷ ds) h =
    let h₁ : length (o ++ (b ∷ [])) ≤ i = omega (arith, length-append o (b ∷ [])) in
    let h₂ : length o ≤ i = omega arith in
    rw (get_or-eq_default (o ++ (b ∷ [])) (last_at i d ls) h₁, get_or-eq_default o (last_at i d ls) h₂, buffer_past ls o b (suc i) ds (omega arith))

pub buffer_set : (ls : List (List ℕ)) (o : List ℕ) (b k i : ℕ) (line : List ℕ) → i + k ≡ length o → line_buffer ls (o ++ (b ∷ [])) i line ≡ set (line_buffer ls o i line) k b
unfolding line_buffer pick
buffer_set ls o b k i [] h = refl
buffer_set ls o b zero i (d ∷ ds) h =
    rw (get_or_at o b [] (last_at i d ls) i (omega arith), buffer_past ls o b (suc i) ds (omega arith))
buffer_set ls o b (suc k) i (d ∷ ds) h =
    rw (get_or-append o (b ∷ []) (last_at i d ls) i (omega arith), buffer_set ls o b k (suc i) ds (omega arith))

pub buffer_held : (ls : List (List ℕ)) (p q : List ℕ) (i : ℕ) (line : List ℕ) → length p ≡ i → length q ≤ length line → take (length q) (line_buffer ls (p ++ q) i line) ≡ q
unfolding line_buffer pick
buffer_held ls p [] i line e h = refl
buffer_held ls p (x ∷ q) i [] e h = absurd (not-suc-le-zero h)
buffer_held ls p (x ∷ q) i (d ∷ ds) e h =
    rw (get_or_at p x q (last_at i d ls) i e)
    (ap (λ (o : List ℕ). x ∷ take (length q) (line_buffer ls o (suc i) ds)) (sym (append_assoc p (x ∷ []) q))
    ∙ ap (λ (r : List ℕ). x ∷ r) (buffer_held ls (p ++ (x ∷ [])) q (suc i) ds (omega (arith, length-append p (x ∷ []))) (le_of_suc-le-suc h)))

-- the first refused byte
abbrev pub next_by : Fault → ℕ → List ℕ → FirstFault → FirstFault
next_by none room text s = or_else s.before (fault_of_byte room text s.before) (record { before = suc s.before; why = none })
next_by (refuse n p) room text s = s

abbrev pub next : ℕ → List ℕ → FirstFault → FirstFault
next room text s = next_by s.why room text s

next_else : (room : ℕ) (text : List ℕ) (p : ℕ) (f : Fault) (s : FirstFault) → or_else p f (next room text s) ≡ next room text (or_else p f s)
next_else room text p none s = refl
next_else room text p (refuse n q) s = refl

first_suc : (room : ℕ) (text : List ℕ) (n p : ℕ) → first_from room text p (suc n) ≡ next room text (first_from room text p n)
unfolding first_from pick
first_suc room text zero p = refl
first_suc room text (suc n) p =
    ap (or_else p (fault_of_byte room text p)) (first_suc room text n (suc p)) ∙ next_else room text p (fault_of_byte room text p) (first_from room text (suc p) n)

first_append : (room : ℕ) (t u : List ℕ) (n p : ℕ) → p + n ≤ length t → first_from room (t ++ u) p n ≡ first_from room t p n
unfolding first_from pick
first_append room t u zero p h = refl
first_append room t u (suc n) p h =
    rw (take-append-le p t u (omega arith), get_or-append t u 0 p (omega arith), first_append room t u n (suc p) (omega arith))

pub first_snoc : (room : ℕ) (t : List ℕ) (b : ℕ) → first_fault room (t ++ (b ∷ [])) ≡ next room (t ++ (b ∷ [])) (first_fault room t)
first_snoc room t b =
    let len : length (t ++ (b ∷ [])) ≡ suc (length t) = omega (arith, length-append t (b ∷ [])) in
    ap (first_from room (t ++ (b ∷ [])) 0) len
    ∙ first_suc room (t ++ (b ∷ [])) (length t) 0
    ∙ ap (next room (t ++ (b ∷ []))) (first_append room t (b ∷ []) (length t) 0 (omega arith))

-- where nothing is refused, all bytes stand before it; where something is, no more than there are
at_end_lem : (p n : ℕ) (f : Fault) (s : FirstFault) → (s.why ≡ none → s.before ≡ suc p + n) → (or_else p f s).why ≡ none → (or_else p f s).before ≡ p + suc n
at_end_lem p n none s h e = omega (arith, h e)
at_end_lem p n (refuse m q) s h e = let z : ◌≡◌ {A = ℕ} 0 1 = cc in absurd (omega arith)

first_none : (room : ℕ) (t : List ℕ) (n p : ℕ) → (first_from room t p n).why ≡ none → (first_from room t p n).before ≡ p + n
unfolding first_from pick
first_none room t zero p e = omega arith
first_none room t (suc n) p e =
    at_end_lem p n (fault_of_byte room t p) (first_from room t (suc p) n) (first_none room t n (suc p)) e

pub none_end : (room : ℕ) (t : List ℕ) → (first_fault room t).why ≡ none → (first_fault room t).before ≡ length t
none_end room t e = first_none room t (length t) 0 e ∙ zero-add (length t)

inside : (p n : ℕ) (f : Fault) (s : FirstFault) → s.before ≤ suc p + n → (or_else p f s).before ≤ p + suc n
inside p n none s h = omega arith
inside p n (refuse m q) s h = omega arith

first_inside : (room : ℕ) (t : List ℕ) (n p : ℕ) → (first_from room t p n).before ≤ p + n
unfolding first_from pick
first_inside room t zero p = omega arith
first_inside room t (suc n) p = inside p n (fault_of_byte room t p) (first_from room t (suc p) n) (first_inside room t n (suc p))

pub fault_inside : (room : ℕ) (t : List ℕ) → (first_fault room t).before ≤ length t
fault_inside room t = omega (arith, first_inside room t (length t) 0)
