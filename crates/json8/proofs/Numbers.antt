-- What a JSON8 text is refused for: each reader's own refusals, and those of readers joined; the members' loop by strong induction on the text, lists
-- and dicts by the brackets left.
-- Assumes nothing.
use Prim.Native.Nat.{ℕ, zero, suc, pred, ◌+◌, ◌<◌}
use mathlib.Core.Bool.{Bool, true, false}
use mathlib.Core.List.{List, [], ◌∷◌}
use mathlib.Core.Logic.{◌⊎◌, inl, inr}
use mathlib.Core.Path.{◌≡◌, refl}
use native.Mathlib.Omega.{arith}
use borrow.Author.Tests.{ne_eqb}
use lib.Dec.{ltb, eqb, lit≤}
use lib.ListN.{length, take, drop}
use Rattle.std.specs.Prelude.{Option, Some, None, Result, Ok, Err}
use Rattle.prelude.specs.declared.refusals.Refusal.{Refusal}
use Rattle.prelude.specs.declared.refusals.Refused.{Refused}
use Rattle.prelude.specs.Limits.{node_max, depth_max, text_max}
use Rattle.prelude.specs.Pick.{pick}
use Rattle.prelude.specs.Refusals.{too_long, cut_off, no_room, misplaced, too_many, refused_at, FromTo, TextFault}
use Rattle.prelude.proofs.Cases.{never}
use Rattle.prelude.proofs.Picks.{pick_case}
use Rattle.prelude.proofs.Suffix.{by_suffix}
use Rattle.utf8.specs.Utf8.{char_len, char_fault}
use Rattle.utf8.proofs.Characters.{high_start}
use Rattle.utf8.proofs.Faults.{fault_told}
use Rattle.notation.specs.Marks.{Opening, opens, unopened, opening}
use Rattle.strings.specs.Read.{StringRead, accepted, refused as unread, read_token}
use Rattle.strings.proofs.Numbers.{StringFault, token_fault}
use Rattle.tokens.specs.declared.numbers.Number.{Number}
use Rattle.tokens.specs.declared.starts.Start.{Start}
use Rattle.tokens.specs.declared.starts.Start.TheVariants.{Ended, String as StringStart, Word as WordStart, Number as NumberStart, List as ListStart, Dict, Nothing}
use Rattle.tokens.specs.Blanks.{passing, blanks_from, blanks}
use Rattle.tokens.specs.Words.{word_of, word_value}
use Rattle.tokens.specs.Numbers.{number_at}
use Rattle.tokens.specs.Starts.{Behind, closes, separates, lacks, is_opening, start_of, colon_at, comma_at}
use Rattle.tokens.proofs.Progress.{Passed, blanks_passed, Begun, start_begun}
use Rattle.json8.specs.declared.nodes.Sort.{Sort}
use Rattle.json8.specs.declared.nodes.Sort.TheVariants.{Items, Pairs}
use Rattle.json8.specs.Nodes.{Node, Read, got, refused, Reader, preceded, chain, seq, limited}
use Rattle.json8.specs.Leaves.{passed, spaces, marked, colon, comma, mark_len, slashed, string_node, string_read, string, plain, word_read, word, number_read, number, key_by, key}
use Rattle.json8.specs.Values.{value_by, value_of, close_of, member_of, close_or, round, again, follow, members, group_kind, group_node, group_of, group, value}
use Rattle.json8.specs.Read.{text_end, read_all, fitted, read_of}
use Rattle.json8.specs.Claims.{Numbered}
use Rattle.json8.proofs.Fair.{members_skip}

-- a text's own refusals, before the cap and the room
abbrev InText : Refusal → Type 0
InText r = TextFault r ⊎ FromTo misplaced too_many r

abbrev Told : Read → Type 0
Told (got l tag ns bs) = Unit
Told (refused refusal at) = InText refusal

abbrev ToldBy : Reader → Type 0
ToldBy rd = (p n m : ℕ) (s : List ℕ) → Told (rd p n m s)

cut : InText cut_off
cut = inl (inl refl)

-- one behind another
preceded_told : (l : ℕ) (ns : List Node) (bs : List ℕ) (r : Read) → Told r → Told (preceded l ns bs r)
preceded_told l ns bs (got k tag ms cs) h = tt
preceded_told l ns bs (refused refusal at) h = h

chain_told : (r : Read) (y : Reader) → Told r → ToldBy y → ToldBy (chain r y)
chain_told (got l tag ns bs) y f g p n m s =
    preceded_told l ns bs (y (p + l) (n + length ns) (m + length bs) (drop l s)) (g (p + l) (n + length ns) (m + length bs) (drop l s))
chain_told (refused refusal at) y f g p n m s = f

seq_told : (x y : Reader) → ToldBy x → ToldBy y → ToldBy (seq x y)
unfolding seq
seq_told x y f g p n m s = chain_told (x p n m s) y (f p n m s) g p n m s

limited_told : (rd : Reader) (p n m : ℕ) (s : List ℕ) → Told (rd p n m s) → Told (limited rd p n m s)
unfolding limited
limited_told rd p n m s f = pick_case Told (ltb n node_max) _ _ (λ e. f) (λ e. inr (lit≤ tt, lit≤ tt))

-- blanks and marks
spaces_told : ToldBy spaces
unfolding spaces
spaces_told p n m s = go (blanks s) (blanks_passed s)
  where
    go : (b : Result ℕ Refused) → Passed 0 s b → Told (passed p b)
    go (Ok i) h = tt
    go (Err f) h = inl (inr (inr (inr h.1)))

abbrev Lacking : Behind → Type 0
Lacking closes = Unit
Lacking separates = Unit
Lacking (lacks refusal) = InText refusal

marked_told : (p : ℕ) (b : Behind) → Lacking b → Told (marked p b)
marked_told p closes h = tt
marked_told p separates h = tt
marked_told p (lacks refusal) h = h

colon_told : ToldBy colon
unfolding colon colon_at
colon_told p n m [] = cut
colon_told p n m (x ∷ r) = marked_told p (colon_at (x ∷ r)) (pick_case Lacking (eqb x 0x3a) _ _ (λ e. tt) (λ e. inr (lit≤ tt, lit≤ tt)))

comma_told : (close : ℕ) → ToldBy (comma close)
unfolding comma comma_at
comma_told close p n m [] = cut
comma_told close p n m (x ∷ r) =
    marked_told p (comma_at close (x ∷ r))
    (pick_case Lacking (eqb x close) _ _ (λ e. tt) (λ e. pick_case Lacking (eqb x 0x2c) _ _ (λ d. tt) (λ d. inr (lit≤ tt, lit≤ tt))))

-- leaves
string_told : (p n m : ℕ) (s : List ℕ) → is_opening (opening s) ≡ true → Told (string p n m s)
unfolding string string_node
string_told p n m s o = by_opening_lem (opening s) refl o
  where
    by_token : (r : StringRead) → StringFault r → Told (string_read p m s r)
    by_token (accepted bs e) f = pick_node (slashed (take e s))
      where
        pick_node : (b : Bool) → Told (string_node b p m (mark_len (opening s)) e bs)
        pick_node true = tt
        pick_node false = tt
    by_token (unread refusal at) f = inl f

    by_opening_lem : (q : Opening) → opening s ≡ q → is_opening q ≡ true → Told (string p n m s)
    by_opening_lem (opens st k) e h = by_token (read_token s) (token_fault st k s e)
    by_opening_lem unopened e h = never (let z : false ≡ true = h in cc)

plain_told : (kind len p n m : ℕ) (s : List ℕ) → Told (limited (plain kind len) p n m s)
unfolding plain
plain_told kind len p n m s = limited_told (plain kind len) p n m s tt

word_told : (w : Option ℕ) (len : ℕ) → ToldBy (word_read w len)
word_told (Some kind) len p n m s = plain_told kind len p n m s
word_told None len p n m s = inr (lit≤ tt, lit≤ tt)

number_told : (v : Option Number) → ToldBy (number_read v)
number_told (Some v) p n m s = plain_told v.kind v.len p n m s
number_told None p n m s = inr (lit≤ tt, lit≤ tt)

value_told : (ls ds : Reader) → ToldBy ls → ToldBy ds → ToldBy (value_of ls ds)
unfolding value_of word number
value_told ls ds f g p n m s = go (start_of s) (start_begun s)
  where
    go : (q : Start) → Begun s q → Told (value_by ls ds q p n m s)
    go Ended b = cut
    go StringStart b = limited_told string p n m s (string_told p n m s b)
    go WordStart b = word_told (word_value (word_of s)) (length (word_of s)) p n m s
    go NumberStart b = number_told (number_at s) p n m s
    go ListStart b = f p n m s
    go Dict b = g p n m s
    go Nothing b = inr (lit≤ tt, lit≤ tt)

key_told : ToldBy key
unfolding key
key_told p n m s = go (start_of s) (start_begun s)
  where
    go : (q : Start) → Begun s q → Told (key_by q p n m s)
    go Ended b = cut
    go StringStart b = limited_told string p n m s (string_told p n m s b)
    go WordStart b = plain_told 5 (length (word_of s)) p n m s
    go NumberStart b = inr (lit≤ tt, lit≤ tt)
    go ListStart b = inr (lit≤ tt, lit≤ tt)
    go Dict b = inr (lit≤ tt, lit≤ tt)
    go Nothing b = inr (lit≤ tt, lit≤ tt)

member_told : (b : Sort) (v : Reader) → ToldBy v → ToldBy (member_of b v)
member_told Items v f = f
member_told Pairs v f =
    seq_told key (seq spaces (seq colon (seq spaces v))) key_told
    (seq_told spaces (seq colon (seq spaces v)) spaces_told (seq_told colon (seq spaces v) colon_told (seq_told spaces v spaces_told f)))

-- the members' loop, generic in the member's reader
module _ (close : ℕ) (rd : Reader) (f : ToldBy rd) where
  close_told : ToldBy (close_or close rd)
  unfolding close_or
  close_told p n m [] = cut
  close_told p n m (x ∷ r) =
      pick_case Told (eqb x close) _ _ (λ e. tt)
      (λ e. seq_told rd (seq spaces (comma close)) f (seq_told spaces (comma close) spaces_told (comma_told close)) p n m (x ∷ r))

  round_told : ToldBy (round close rd)
  round_told = seq_told spaces (close_or close rd) spaces_told close_told

  abbrev LoopTold : List ℕ → Type 0
  LoopTold s = (p n m : ℕ) → Told (members close rd p n m 0 s)

  again_told : (l : ℕ) (ns : List Node) (bs : List ℕ) (r : Read) → Told r → Told (again l ns bs r)
  again_told l ns bs (got k c ms cs) h = tt
  again_told l ns bs (refused refusal at) h = h

  loop_one : (x : ℕ) (r : List ℕ) → ((k : ℕ) → LoopTold (drop k r)) → LoopTold (x ∷ r)
  unfolding members
  loop_one x r ih p n m = go (round close rd p n m (x ∷ r)) (round_told p n m (x ∷ r))
    where
      go : (q : Read) → Told q → Told (follow p n m q (λ q i j k. members close rd q i j k r))
      go (refused refusal at) g = g
      go (got l zero ns bs) g = g
      go (got l (suc zero) ns bs) g = g
      go (got l (suc (suc t)) ns bs) g =
          again_told l ns bs (members close rd (p + l) (n + length ns) (m + length bs) (pred l) r)
          (rw (members_skip close rd (p + l) (n + length ns) (m + length bs) (pred l) r) (ih (pred l) (p + l) (n + length ns) (m + length bs)))

  members_told : (s : List ℕ) → LoopTold s
  unfolding members
  members_told = by_suffix LoopTold (λ p n m. cut) loop_one

node_told : (kind p : ℕ) (r : Read) → Told r → Told (group_node kind p r)
node_told kind p (got l c ns bs) f = tt
node_told kind p (refused refusal at) f = f

group_told : (left : ℕ) (b : Sort) → ToldBy (group left b)
unfolding group group_of
group_told zero b p n m s = inr (lit≤ tt, lit≤ tt)
group_told (suc d) b p n m s =
    limited_told (group_of b (value d)) p n m s
    (node_told (group_kind b) p (members (close_of b) (member_of b (value d)) (p + 1) (n + 1) m 0 (drop 1 s))
    (members_told (close_of b) (member_of b (value d))
    (member_told b (value d) (value_told (group d Items) (group d Pairs) (group_told d Items) (group_told d Pairs))) (drop 1 s) (p + 1) (n + 1) m))

end_told : ToldBy text_end
unfolding text_end
end_told p n m [] = tt
end_told p n m (x ∷ r) = inl (inr (inl refl))

all_told : (s : List ℕ) → Told (read_all s)
unfolding read_all
all_told s =
    seq_told spaces (seq (value depth_max) (seq spaces text_end)) spaces_told
    (seq_told (value depth_max) (seq spaces text_end)
    (value_told (group depth_max Items) (group depth_max Pairs) (group_told depth_max Items) (group_told depth_max Pairs))
    (seq_told spaces text_end spaces_told end_told)) 0 0 0 s

-- with the cap and the rooms
abbrev pub ReadNumbered : Read → Type 0
ReadNumbered (got l tag ns bs) = Unit
ReadNumbered (refused refusal at) = Numbered refusal

fitted_numbered : (nodes room : ℕ) (r : Read) → Told r → ReadNumbered (fitted nodes room r)
fitted_numbered nodes room (got l tag ns bs) f =
    pick_case ReadNumbered (ltb nodes (length ns)) _ _ (λ e. inr (inr (inr refl)))
    (λ e. pick_case ReadNumbered (ltb room (length bs)) (refused no_room 0) (got l tag ns bs) (λ d. inr (inr (inr refl))) (λ d. tt))
fitted_numbered nodes room (refused refusal at) (inl f) = inr (inl f)
fitted_numbered nodes room (refused refusal at) (inr f) = inr (inr (inl f))

pub text_numbered : (nodes room : ℕ) (s : List ℕ) → ReadNumbered (read_of nodes room s)
unfolding read_of
text_numbered nodes room s =
    pick_case ReadNumbered (ltb text_max (length s)) (refused too_long 0) (fitted nodes room (read_all s)) (λ e. inl refl)
    (λ e. fitted_numbered nodes room (read_all s) (all_told s))

-- a comment hands on its character's fault
pub passed_up : (i : ℕ) (s : List ℕ) → 0 < length s → char_len s ≡ 0
    → (why : Refusal) × ((char_fault s ≡ Some why) × (blanks_from true i 0 s ≡ Err (refused_at why i)))
unfolding blanks_from passing pick
passed_up i [] h e = absurd (omega arith)
passed_up i (x ∷ r) h e =
    let (why, (f, w)) = fault_told (x ∷ r) e in
    (why, (f, rw (ne_eqb x 0x0a (λ z. omega (arith, high_start x r e)), e, f)))
