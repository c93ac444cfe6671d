-- Progress, sizes and places: each reader takes what it says and stays inside the text, and readers joined do too; the members' loop by
-- strong induction on the text, lists and dicts by the brackets left.
-- Assumes nothing.
use mathlib.Core.Path.{◌≡◌, refl, ap}
use mathlib.Core.Bool.{Bool, true, false}
use mathlib.Core.List.{List, [], ◌∷◌}
use Prim.Native.Nat.{ℕ, zero, suc, ◌+◌, ◌≤◌, ◌<◌, zero-le}
use native.Mathlib.Omega.{arith}
use borrow.Author.Tests.{ltb-true}
use lib.Dec.{ltb, eqb, lit≤}
use lib.ListN.{length, take, drop, length-append, length-drop}
use Rattle.std.specs.Prelude.{Option, Some, None, Result, Ok, Err}
use Rattle.prelude.specs.declared.refusals.Refused.{Refused}
use Rattle.prelude.proofs.Picks.{pick_case}
use Rattle.prelude.proofs.Suffix.{by_suffix}
use Rattle.notation.specs.Marks.{opening}
use Rattle.strings.specs.Read.{StringRead, accepted, refused as unread, read_token}
use Rattle.strings.proofs.Places.{Inside, token_inside}
use Rattle.strings.proofs.Lengths.{Less, token_length}
use Rattle.tokens.specs.declared.numbers.Number.{Number}
use Rattle.tokens.specs.declared.starts.Start.{Start}
use Rattle.tokens.specs.declared.starts.Start.TheVariants.{Ended, String as StringStart, Word as WordStart, Number as NumberStart, List as ListStart, Dict, Nothing}
use Rattle.tokens.specs.Starts.{Behind, closes, separates, lacks}
use Rattle.tokens.specs.Blanks.{blanks}
use Rattle.tokens.specs.Words.{is_word, word_of, word_value}
use Rattle.tokens.specs.Numbers.{number_token, number_at}
use Rattle.tokens.specs.Starts.{start_of, colon_at, comma_at}
use Rattle.tokens.proofs.Runs.{run_le}
use Rattle.tokens.proofs.Progress.{Passed, blanks_passed, Begun, start_begun, Sized, number_sized}
use Rattle.json8.specs.declared.nodes.Sort.{Sort}
use Rattle.json8.specs.declared.nodes.Sort.TheVariants.{Items, Pairs}
use Rattle.json8.specs.Nodes.{Node, Read, got, refused, Reader, preceded, chain, seq, limited}
use Rattle.prelude.specs.Refusals.{number_of, cut_off}
use Rattle.prelude.specs.Limits.{node_max, depth_max}
use Rattle.json8.specs.Leaves.{passed, spaces, marked, colon, comma, mark_len, slashed, string_node, string_read, string, plain, word_read, word, number_read, number, key_by, key}
use Rattle.json8.specs.Values.{value_by, value_of, group_kind, close_of, member_of, close_or, round, again, follow, members, group_node, group_of, group, value}
use Rattle.json8.specs.Read.{text_end, read_all}

-- at least a bytes taken, and no more than there are; 1,024 nodes at most; no more bytes for the store than taken; a refusal's place in the
-- text or at its end, and at its end where the text is cut off
abbrev pub Fair : ℕ → ℕ → ℕ → List ℕ → Read → Type 0
Fair a p n s (got l tag ns bs) = (a ≤ l) × (l ≤ length s) × (n + length ns ≤ node_max) × (length bs ≤ l)
Fair a p n s (refused refusal at) = ((p ≤ at) × (at ≤ p + length s)) × (refusal ≡ cut_off → at ≡ p + length s)

abbrev pub FairBy : ℕ → Reader → Type 0
FairBy a rd = (p n m : ℕ) (s : List ℕ) → n ≤ node_max → Fair a p n s (rd p n m s)

more_fair : (a b p n : ℕ) (s : List ℕ) (l : ℕ) (ns : List Node) (bs : List ℕ) (r : Read) → a ≤ l → l ≤ length s → length bs ≤ l
    → Fair b (p + l) (n + length ns) (drop l s) r → Fair (a + b) p n s (preceded l ns bs r)
more_fair a b p n s l ns bs (got k tag ms cs) h g i f = omega (arith, length-drop l s, length-append ns ms, length-append bs cs)
more_fair a b p n s l ns bs (refused refusal at) h g i f = (omega (arith, f.0, length-drop l s), λ c. omega (arith, f.1 c, length-drop l s))

chain_fair : (a b p n m : ℕ) (s : List ℕ) (r : Read) (y : Reader) → Fair a p n s r → FairBy b y → Fair (a + b) p n s (chain r y p n m s)
chain_fair a b p n m s (got l tag ns bs) y f g =
    more_fair a b p n s l ns bs (y (p + l) (n + length ns) (m + length bs) (drop l s)) f.0 f.1 f.3
    (g (p + l) (n + length ns) (m + length bs) (drop l s) f.2)
chain_fair a b p n m s (refused refusal at) y f g = f

pub seq_fair : (a b : ℕ) (x y : Reader) → FairBy a x → FairBy b y → FairBy (a + b) (seq x y)
unfolding seq
seq_fair a b x y f g p n m s h = chain_fair a b p n m s (x p n m s) y (f p n m s h) g

weaken : (a b p n : ℕ) (s : List ℕ) (r : Read) → b ≤ a → Fair a p n s r → Fair b p n s r
weaken a b p n s (got l tag ns bs) h f = (omega arith, f.1, f.2, f.3)
weaken a b p n s (refused refusal at) h f = f

-- blanks and marks
passed_fair : (p n : ℕ) (s : List ℕ) (b : Result ℕ Refused) → n ≤ node_max → Passed 0 s b → Fair 0 p n s (passed p b)
passed_fair p n s (Ok i) h f = (omega arith, omega arith, omega arith, omega arith)
passed_fair p n s (Err v) h f = (omega (arith, f.0), λ c. absurd (omega (arith, f.1, ap number_of c)))

pub spaces_fair : FairBy 0 spaces
unfolding spaces
spaces_fair p n m s h = passed_fair p n s (blanks s) h (blanks_passed s)

-- a mark where a byte stands isn't one that is cut off
abbrev Stands : Behind → Type 0
Stands closes = Unit
Stands separates = Unit
Stands (lacks refusal) = refusal ≡ cut_off → ⊥

mark_fair : (p n x : ℕ) (r : List ℕ) (k : Behind) → n ≤ node_max → Stands k → Fair 1 p n (x ∷ r) (marked p k)
mark_fair p n x r closes h f = (omega arith, omega arith, omega arith, omega arith)
mark_fair p n x r separates h f = (omega arith, omega arith, omega arith, omega arith)
mark_fair p n x r (lacks refusal) h f = (omega arith, λ c. absurd (f c))

pub colon_fair : FairBy 1 colon
unfolding colon colon_at
colon_fair p n m [] h = (omega arith, λ c. omega (arith, ap number_of c))
colon_fair p n m (x ∷ r) h = mark_fair p n x r (colon_at (x ∷ r)) h (pick_case Stands (eqb x 0x3a) _ _ (λ e. tt) (λ e c. omega (arith, ap number_of c)))

pub comma_fair : (close : ℕ) → FairBy 1 (comma close)
unfolding comma comma_at
comma_fair close p n m [] h = (omega arith, λ c. omega (arith, ap number_of c))
comma_fair close p n m (x ∷ r) h =
    mark_fair p n x r (comma_at close (x ∷ r)) h
    (pick_case Stands (eqb x close) _ _ (λ e. tt) (λ e. pick_case Stands (eqb x 0x2c) _ _ (λ d. tt) (λ d c. omega (arith, ap number_of c))))

limited_fair : (rd : Reader) (p n m : ℕ) (s : List ℕ) → (n < node_max → Fair 1 p n s (rd p n m s)) → Fair 1 p n s (limited rd p n m s)
unfolding limited
limited_fair rd p n m s f =
    pick_case (Fair 1 p n s) (ltb n node_max) _ _ (λ e. f (ltb-true n node_max e)) (λ e. (omega arith, λ c. omega (arith, ap number_of c)))

-- strings
node_fair : (b : Bool) (p n m k e : ℕ) (s bs : List ℕ) → n < node_max → 0 < e → e ≤ length s → length bs < e → Fair 1 p n s (string_node b p m k e bs)
unfolding string_node
node_fair true p n m k e s bs h g i j = (omega arith, omega arith, omega arith, omega arith)
node_fair false p n m k e s bs h g i j = (omega arith, omega arith, omega arith, omega arith)

string_fair : (p n m : ℕ) (s : List ℕ) → n < node_max → Fair 1 p n s (string p n m s)
unfolding string
string_fair p n m s h = go (read_token s) (token_inside s) (token_length s)
  where
    go : (r : StringRead) → Inside 0 (length s) r → Less r → Fair 1 p n s (string_read p m s r)
    go (accepted bs e) i j = node_fair (slashed (take e s)) p n m (mark_len (opening s)) e s bs h i.0 i.1 j
    go (unread refusal at) i j = (omega (arith, i.0), λ c. omega (arith, i.1 c))

-- words and numbers
plain_fair : (kind len p n m : ℕ) (s : List ℕ) → 0 < len → len ≤ length s → Fair 1 p n s (limited (plain kind len) p n m s)
unfolding plain
plain_fair kind len p n m s h g = limited_fair (plain kind len) p n m s (λ i. (omega arith, omega arith, omega arith, omega arith))

word_fair : (w : Option ℕ) (len p n m : ℕ) (s : List ℕ) → 0 < len → len ≤ length s → Fair 1 p n s (word_read w len p n m s)
word_fair (Some kind) len p n m s h g = plain_fair kind len p n m s h g
word_fair None len p n m s h g = (omega arith, λ c. omega (arith, ap number_of c))

number_fair : (v : Option Number) (p n m : ℕ) (s : List ℕ) → 0 < length (number_token s) → Sized s v → Fair 1 p n s (number_read v p n m s)
number_fair (Some v) p n m s h g = plain_fair v.kind v.len p n m s (omega (arith, g.0)) g.1
number_fair None p n m s h g = (omega arith, λ c. omega (arith, ap number_of c))

-- a reader that is only used where something stands
abbrev pub FairOn : Reader → Type 0
FairOn rd = (p n m : ℕ) (s : List ℕ) → n ≤ node_max → 0 < length s → Fair 1 p n s (rd p n m s)

value_by_fair : (ls ds : Reader) → FairOn ls → FairOn ds → (q : Start) (p n m : ℕ) (s : List ℕ) → n ≤ node_max → Begun s q
    → Fair 1 p n s (value_by ls ds q p n m s)
unfolding word number
value_by_fair ls ds f g Ended p n m s h b = (omega arith, λ c. omega (arith, ap number_of c))
value_by_fair ls ds f g StringStart p n m s h b = limited_fair string p n m s (string_fair p n m s)
value_by_fair ls ds f g WordStart p n m s h b = word_fair (word_value (word_of s)) (length (word_of s)) p n m s b (run_le is_word s)
value_by_fair ls ds f g NumberStart p n m s h b = number_fair (number_at s) p n m s b (number_sized s)
value_by_fair ls ds f g ListStart p n m s h b = f p n m s h b
value_by_fair ls ds f g Dict p n m s h b = g p n m s h b
value_by_fair ls ds f g Nothing p n m s h b = (omega arith, λ c. omega (arith, ap number_of c))

value_of_fair : (ls ds : Reader) → FairOn ls → FairOn ds → FairBy 1 (value_of ls ds)
unfolding value_of
value_of_fair ls ds f g p n m s h = value_by_fair ls ds f g (start_of s) p n m s h (start_begun s)

key_by_fair : (q : Start) (p n m : ℕ) (s : List ℕ) → n ≤ node_max → Begun s q → Fair 1 p n s (key_by q p n m s)
key_by_fair Ended p n m s h b = (omega arith, λ c. omega (arith, ap number_of c))
key_by_fair StringStart p n m s h b = limited_fair string p n m s (string_fair p n m s)
key_by_fair WordStart p n m s h b = plain_fair 5 (length (word_of s)) p n m s b (run_le is_word s)
key_by_fair NumberStart p n m s h b = (omega arith, λ c. omega (arith, ap number_of c))
key_by_fair ListStart p n m s h b = (omega arith, λ c. omega (arith, ap number_of c))
key_by_fair Dict p n m s h b = (omega arith, λ c. omega (arith, ap number_of c))
key_by_fair Nothing p n m s h b = (omega arith, λ c. omega (arith, ap number_of c))

pub key_fair : FairBy 1 key
unfolding key
key_fair p n m s h = key_by_fair (start_of s) p n m s h (start_begun s)

pub member_fair : (b : Sort) (v : Reader) → FairBy 1 v → FairBy 1 (member_of b v)
member_fair Items v f p n m s h = f p n m s h
member_fair Pairs v f p n m s h =
    weaken 3 1 p n s (member_of Pairs v p n m s) (lit≤ tt)
    (seq_fair 1 2 key (seq spaces (seq colon (seq spaces v))) key_fair
    (seq_fair 0 2 spaces (seq colon (seq spaces v)) spaces_fair
    (seq_fair 1 1 colon (seq spaces v) colon_fair (seq_fair 0 1 spaces v spaces_fair f))) p n m s h)

pub members_skip : (close : ℕ) (rd : Reader) (p n m k : ℕ) (s : List ℕ) → members close rd p n m k s ≡ members close rd p n m 0 (drop k s)
unfolding members
members_skip close rd p n m zero s = refl
members_skip close rd p n m (suc k) [] = refl
members_skip close rd p n m (suc k) (x ∷ r) = members_skip close rd p n m k r

-- the members' loop, generic in the member's reader
module _ (close : ℕ) (rd : Reader) (f : FairBy 1 rd) where
  close_fair : FairBy 1 (close_or close rd)
  unfolding close_or
  close_fair p n m [] h = (omega arith, λ c. omega (arith, ap number_of c))
  close_fair p n m (x ∷ r) h =
      pick_case (Fair 1 p n (x ∷ r)) (eqb x close) _ _ (λ e. (omega arith, omega arith, omega arith, omega arith))
      (λ e. weaken 2 1 p n (x ∷ r) (seq rd (seq spaces (comma close)) p n m (x ∷ r)) (lit≤ tt)
      (seq_fair 1 1 rd (seq spaces (comma close)) f (seq_fair 0 1 spaces (comma close) spaces_fair (comma_fair close)) p n m (x ∷ r) h))

  pub round_fair : FairBy 1 (round close rd)
  round_fair = seq_fair 0 1 spaces (close_or close rd) spaces_fair close_fair

  abbrev LoopFair : List ℕ → Type 0
  LoopFair s = (p n m : ℕ) → n ≤ node_max → Fair 1 p n s (members close rd p n m 0 s)

  again_fair : (p n : ℕ) (s : List ℕ) (l : ℕ) (ns : List Node) (bs : List ℕ) (r : Read) → 1 ≤ l → l ≤ length s → length bs ≤ l
      → Fair 1 (p + l) (n + length ns) (drop l s) r → Fair 1 p n s (again l ns bs r)
  again_fair p n s l ns bs (got k c ms cs) h g i e = omega (arith, length-drop l s, length-append ns ms, length-append bs cs)
  again_fair p n s l ns bs (refused refusal at) h g i e = (omega (arith, e.0, length-drop l s), λ c. omega (arith, e.1 c, length-drop l s))

  loop_one : (x : ℕ) (r : List ℕ) → ((k : ℕ) → LoopFair (drop k r)) → LoopFair (x ∷ r)
  unfolding members
  loop_one x r ih p n m h = go (round close rd p n m (x ∷ r)) (round_fair p n m (x ∷ r) h)
    where
      go : (q : Read) → Fair 1 p n (x ∷ r) q → Fair 1 p n (x ∷ r) (follow p n m q (λ q i j k. members close rd q i j k r))
      go (refused refusal at) g = g
      go (got l zero ns bs) g = g
      go (got l (suc zero) ns bs) g = g
      go (got zero (suc (suc t)) ns bs) g = absurd (omega arith)
      go (got (suc l) (suc (suc t)) ns bs) g =
          again_fair p n (x ∷ r) (suc l) ns bs (members close rd (p + suc l) (n + length ns) (m + length bs) l r) g.0 g.1 g.3
          (rw (members_skip close rd (p + suc l) (n + length ns) (m + length bs) l r) (ih l (p + suc l) (n + length ns) (m + length bs) g.2))

  members_fair : (s : List ℕ) → LoopFair s
  unfolding members
  members_fair = by_suffix LoopFair (λ p n m h. (omega arith, omega arith)) loop_one

branch_fair : (kind p n x : ℕ) (s : List ℕ) (r : Read) → Fair 1 (p + 1) (n + 1) s r → Fair 1 p n (x ∷ s) (group_node kind p r)
branch_fair kind p n x s (got l c ns bs) f = (omega arith, omega arith, omega arith, omega arith)
branch_fair kind p n x s (refused refusal at) f = (omega (arith, f.0), λ c. omega (arith, f.1 c))

bracketed_fair : (b : Sort) (v : Reader) → FairBy 1 v → (p n m : ℕ) (s : List ℕ) → 0 < length s → n < node_max → Fair 1 p n s (group_of b v p n m s)
unfolding group_of
bracketed_fair b v f p n m [] g h = absurd (omega arith)
bracketed_fair b v f p n m (x ∷ s) g h =
    branch_fair (group_kind b) p n x s (members (close_of b) (member_of b v) (p + 1) (n + 1) m 0 s)
    (members_fair (close_of b) (member_of b v) (member_fair b v f) s (p + 1) (n + 1) m (omega arith))

pub opened_fair : (left : ℕ) (b : Sort) → FairOn (group left b)
unfolding group
opened_fair zero b p n m s h g = (omega arith, λ c. omega (arith, ap number_of c))
opened_fair (suc d) b p n m s h g =
    limited_fair (group_of b (value d)) p n m s
    (bracketed_fair b (value d) (value_of_fair (group d Items) (group d Pairs) (opened_fair d Items) (opened_fair d Pairs)) p n m s g)

pub value_fair : (left : ℕ) → FairBy 1 (value left)
value_fair d = value_of_fair (group d Items) (group d Pairs) (opened_fair d Items) (opened_fair d Pairs)

finish_fair : FairBy 0 text_end
unfolding text_end
finish_fair p n m [] h = (omega arith, omega arith, omega arith, omega arith)
finish_fair p n m (x ∷ r) h = (omega arith, λ c. omega (arith, ap number_of c))

pub read_fair : (s : List ℕ) → Fair 1 0 0 s (read_all s)
unfolding read_all
read_fair s =
    seq_fair 0 1 spaces (seq (value depth_max) (seq spaces text_end)) spaces_fair
    (seq_fair 1 0 (value depth_max) (seq spaces text_end) (value_fair depth_max) (seq_fair 0 0 spaces text_end spaces_fair finish_fair)) 0 0 0 s zero-le
