-- Readers of values, lists and dicts: "A list may hold dicts and a dict may hold lists, 32 deep." The brackets left are the recursion.
-- Assumes nothing.
use Rattle.std.specs.Prelude.{ℕ, zero, suc, pred, ◌+◌, List, [], ◌∷◌, ◌++◌, eqb, length, drop}
use Rattle.prelude.specs.Pick.{pick}
use Rattle.prelude.specs.Refusals.{cut_off, misplaced, too_deep}
use Rattle.tokens.specs.declared.starts.Start.{Start}
use Rattle.tokens.specs.declared.starts.Start.TheVariants.{Ended, String as StringStart, Word as WordStart, Number as NumberStart, List as ListStart, Dict, Nothing}
use Rattle.tokens.specs.Starts.{end_array, end_object, start_of}
use Rattle.json8.specs.declared.nodes.Sort.{Sort}
use Rattle.json8.specs.declared.nodes.Sort.TheVariants.{Items, Pairs}
use Rattle.json8.specs.Nodes.{Node, node, Read, got, refused, Reader, seq, limited}
use Rattle.json8.specs.Leaves.{spaces, colon, comma, string, word, number, key}

-- a value, by what begins here; the readers of lists and of dicts are given
abbrev pub value_by : Reader → Reader → Start → Reader
value_by ls ds Ended p n m s = refused cut_off p
value_by ls ds StringStart p n m s = limited string p n m s
value_by ls ds WordStart p n m s = word p n m s
value_by ls ds NumberStart p n m s = number p n m s
value_by ls ds ListStart p n m s = ls p n m s
value_by ls ds Dict p n m s = ds p n m s
value_by ls ds Nothing p n m s = refused misplaced p

unfoldable pub value_of : Reader → Reader → Reader
value_of ls ds p n m s = value_by ls ds (start_of s) p n m s

-- lists and dicts differ in their kind, "7 list, 8 dict", in their bracket and in their members
abbrev pub group_kind : Sort → ℕ
group_kind Items = 7
group_kind Pairs = 8

abbrev pub close_of : Sort → ℕ
close_of Items = end_array
close_of Pairs = end_object

-- RFC 8259, section 4: "member = string name-separator value"; "(key, value, key, value)"
abbrev pub member_of : Sort → Reader → Reader
member_of Items value = value
member_of Pairs value = seq key (seq spaces (seq colon (seq spaces value)))

-- in a bracket, up to where the next member may stand: the closing bracket (tag 0); a member and the closing bracket (1); a member and
-- a comma (2), behind which the bracket may close, "a trailing comma after at least one member"
unfoldable pub close_or : ℕ → Reader → Reader
close_or close member p n m [] = refused cut_off p
close_or close member p n m (x ∷ r) =
    pick (eqb x close) (got 1 0 [] []) (seq member (seq spaces (comma close)) p n m (x ∷ r))

abbrev pub round : ℕ → Reader → Reader
round close member = seq spaces (close_or close member)

-- a member, and then the others
abbrev pub again : ℕ → List Node → List ℕ → Read → Read
again l ns bs (got k c ms cs) = got (l + k) (suc c) (ns ++ ms) (bs ++ cs)
again l ns bs (refused refusal at) = refused refusal at

abbrev pub follow : ℕ → ℕ → ℕ → Read → (ℕ → ℕ → ℕ → ℕ → Read) → Read
follow p n m (got l zero ns bs) go = got l 0 ns bs
follow p n m (got l (suc zero) ns bs) go = got l 1 ns bs
follow p n m (got l (suc (suc t)) ns bs) go = again l ns bs (go (p + l) (n + length ns) (m + length bs) (pred l))
follow p n m (refused refusal at) go = refused refusal at

-- the members and the closing bracket, k bytes on; the tag is their number
unfoldable pub members : ℕ → Reader → ℕ → ℕ → ℕ → ℕ → List ℕ → Read
members close member p n m k [] = refused cut_off p
members close member p n m zero (x ∷ r) =
    follow p n m (round close member p n m (x ∷ r)) (λ q i j k. members close member q i j k r)
members close member p n m (suc k) (x ∷ r) = members close member p n m k r

-- "nodes in its subtree with itself"; "For 7 and 8 place is the bracket and length the members or pairs"
abbrev pub group_node : ℕ → ℕ → Read → Read
group_node kind p (got l c ns bs) = got (suc l) 0 (node kind (suc (length ns)) p c ∷ ns) bs
group_node kind p (refused refusal at) = refused refusal at

unfoldable pub group_of : Sort → Reader → Reader
group_of b value p n m s = group_node (group_kind b) p (members (close_of b) (member_of b value) (p + 1) (n + 1) m 0 (drop 1 s))

-- a list or a dict where so many brackets more may be open: "a 33rd open bracket" is 15
unfoldable pub group : ℕ → Sort → Reader
group zero b = λ p n m s. refused too_deep p
group (suc left) b = limited (group_of b (value_of (group left Items) (group left Pairs)))

abbrev pub value : ℕ → Reader
value left = value_of (group left Items) (group left Pairs)
