-- Readers one behind another, as code runs them: what was read before joins what the next reader tells, in the answer and the notes; the
-- order of joining doesn't matter.
-- Assumes nothing.
use mathlib.Core.Path.{◌≡◌, refl, sym, ap, ap₂, subst, ◌∙◌}
use mathlib.Core.List.{List, [], ◌∷◌, ◌++◌, append_assoc}
use Prim.Native.Nat.{ℕ, suc, ◌+◌, ◌≤◌, ◌<◌}
use native.Mathlib.Omega.{arith}
use native.Mathlib.Nat.{add-zero}
use borrow.Author.Tests.{eqb-true}
use lib.Dec.{eqb}
use lib.ListN.{length, get_or, set, drop, length-append, length-drop}
use lib.Seq.{sets, set_comm, drop-drop}
use Rattle.std.specs.Prelude.{Result, Ok, Err}
use Rattle.prelude.specs.declared.refusals.Refusal.{Refusal}
use Rattle.prelude.specs.declared.refusals.Refused.{Refused}
use Rattle.std.specs.Prelude.{IsErrAnd}
use Rattle.prelude.specs.Pick.{pick}
use Rattle.prelude.specs.Refusals.{refused_at}
use Rattle.prelude.proofs.Cases.{split}
use Rattle.prelude.proofs.Stores.{sets_append}
use Rattle.strings.specs.Read.{read_token}
use Rattle.string_tokens.specs.inner.Quotes.{denoted}
use Rattle.json8_leaves.specs.declared.nodes.Noted.{Noted}
use Rattle.json8_leaves.specs.declared.nodes.Step.{Step}
use Rattle.json8.specs.Nodes.{Node, Read, got, refused, Reader, preceded, chain, seq}
use Rattle.json8.specs.Leaves.{spaces, colon, comma}
use Rattle.json8_leaves.specs.inner.Told.{Place, noted, notes, nodes_of, bytes_of, AllSound, Took, Told, ToldBy, Went, Stepped, SteppedBy}
use Rattle.json8.proofs.Fair.{Fair, FairBy}

-- the code's answers
abbrev pub noted_at : ℕ → ℕ → Result Noted Refused
noted_at p i = Ok (record { at = p; nodes = i })

abbrev pub at_byte : ℕ → ℕ → Result Step Refused
at_byte p x = Ok (record { at = p; byte = x })

-- a refusal that `?` hands on
pub handed_on : {T : Type 0} (r : Result T Refused) (f : Refused) → IsErrAnd r (λ g. g ≡ f) → r ≡ Err f
handed_on (Ok v) f h = absurd h
handed_on (Err g) f h = ap (λ (x : Refused). Err x) h

-- an answer that was looked at, and one that is given
pub took : {text : List ℕ} {want : Read} {at n m : ℕ} {t t' : List ℕ} {r : Result Noted Refused} {v : Noted} → Told text want at n m r t t' → r ≡ Ok v
    → Took text want at n m v.at v.nodes 0 t t'
took {text} {want} {at} {n} {m} {t} {t'} {r} {v} h e = subst (λ (o : Result Noted Refused). ToldBy text want at n m o t t') e h.so

pub stopped : {text : List ℕ} {want : Read} {at n m : ℕ} {t t' : List ℕ} {r : Result Noted Refused} {f : Refused} → Told text want at n m r t t' → r ≡ Err f
    → want ≡ refused f.refusal f.place
stopped {text} {want} {at} {n} {m} {t} {t'} {r} {f} h e = subst (λ (o : Result Noted Refused). ToldBy text want at n m o t t') e h.so

pub went : {text : List ℕ} {want : Read} {at : ℕ} {r : Result Step Refused} {v : Step} → Stepped text want at r → r ≡ Ok v
    → Went want at v.at 0 × (v.byte ≡ get_or (drop v.at text) 0 0)
went {text} {want} {at} {r} {v} h e = subst (SteppedBy text want at) e h.so

pub halted : {text : List ℕ} {want : Read} {at : ℕ} {r : Result Step Refused} {f : Refused} → Stepped text want at r → r ≡ Err f → want ≡ refused f.refusal f.place
halted {text} {want} {at} {r} {f} h e = subst (SteppedBy text want at) e h.so

pub told_got : {text : List ℕ} {want : Read} {at n m p i : ℕ} {t t' : List ℕ} → Took text want at n m p i 0 t t'
    → Told text want at n m (noted_at p i) t t'
told_got w = record { so = w }

pub told_stop : {text : List ℕ} {want : Read} {at n m : ℕ} {refusal : Refusal} {p : ℕ} {t t' : List ℕ} → want ≡ refused refusal p
    → Told text want at n m (Err (refused_at refusal p)) t t'
told_stop e = record { so = e }

pub stepped_at : {text : List ℕ} {want : Read} {at p x : ℕ} → Went want at p 0 → x ≡ get_or (drop p text) 0 0 → Stepped text want at (at_byte p x)
stepped_at w e = record { so = (w, e) }

pub stepped_stop : {text : List ℕ} {want : Read} {at : ℕ} {refusal : Refusal} {p : ℕ} → want ≡ refused refusal p → Stepped text want at (Err (refused_at refusal p))
stepped_stop e = record { so = e }

-- notes one behind another
pub notes_append : (a b : List Node) → notes (a ++ b) ≡ notes a ++ notes b
unfolding notes
notes_append [] b = refl
notes_append (v ∷ a) b = ap (λ (l : List ℕ). noted v ∷ l) (notes_append a b)

pub notes_length : (a : List Node) → length (notes a) ≡ length a
unfolding notes
notes_length [] = refl
notes_length (v ∷ a) = ap suc (notes_length a)

pub sound_append : (text : List ℕ) (a b : List Node) → AllSound text a → AllSound text b → AllSound text (a ++ b)
sound_append text [] b h g = g
sound_append text (v ∷ a) b h g = (h.0, sound_append text a b h.1 g)

pub nodes_length : (m : ℕ) (a : List Node) → length (nodes_of m a) ≡ length a
unfolding nodes_of pick
nodes_length m [] = refl
nodes_length m (v ∷ a) =
    split (eqb v.kind 6) (λ e. rw e (ap suc (nodes_length (m + v.size) a))) (λ e. rw e (ap suc (nodes_length m a)))

pub bytes_append : (text : List ℕ) (a b : List Node) → bytes_of text (a ++ b) ≡ bytes_of text a ++ bytes_of text b
unfolding bytes_of pick
bytes_append text [] b = refl
bytes_append text (v ∷ a) b =
    split (eqb v.kind 6)
    (λ e. rw (e, bytes_append text a b) (sym (append_assoc (denoted (read_token (drop v.place text))) (bytes_of text a) (bytes_of text b))))
    (λ e. rw e (bytes_append text a b))

pub nodes_append : (text : List ℕ) (m : ℕ) (a b : List Node) → AllSound text a
    → nodes_of m (a ++ b) ≡ nodes_of m a ++ nodes_of (m + length (bytes_of text a)) b
unfolding nodes_of bytes_of pick
nodes_append text m [] b h = rw (add-zero m)
nodes_append text m (v ∷ a) b h =
    split (eqb v.kind 6)
    (λ e. let q : m + v.size + length (bytes_of text a) ≡ m + length (denoted (read_token (drop v.place text)) ++ bytes_of text a)
    = omega (arith, h.0.escaped (eqb-true _ _ e), length-append (denoted (read_token (drop v.place text))) (bytes_of text a)) in
    rw (e, nodes_append text (m + v.size) a b h.1, q))
    (λ e. rw (e, nodes_append text m a b h.1))

set_sets : (xs t : List ℕ) (i j v : ℕ) → j < i → set (sets t i xs) j v ≡ sets (set t j v) i xs
set_sets [] t i j v h = refl
set_sets (x ∷ xs) t i j v h =
    set_sets xs (set t i x) (suc i) j v (omega arith) ∙ ap (λ (l : List ℕ). sets l (suc i) xs) (set_comm t i j x v (omega arith))

pub sets_before : (vs xs t : List ℕ) (j i : ℕ) → j + length vs ≡ i → sets (sets t i xs) j vs ≡ sets t j (vs ++ xs)
sets_before [] xs t j i e = ap (λ (k : ℕ). sets t k xs) (let h : i ≡ j = omega arith in h)
sets_before (v ∷ vs) xs t j i e =
    ap (λ (l : List ℕ). sets l (suc j) vs) (set_sets xs t i j v (omega arith)) ∙ sets_before vs xs (set t j v) (suc j) i (omega arith)

-- readers joined either way
more_more : (l : ℕ) (ns : List Node) (bs : List ℕ) (k : ℕ) (ms : List Node) (cs : List ℕ) (z : Read)
    → preceded (l + k) (ns ++ ms) (bs ++ cs) z ≡ preceded l ns bs (preceded k ms cs z)
more_more l ns bs k ms cs (got i u os ds) =
    let a : l + k + i ≡ l + (k + i) = omega arith in rw (a, sym (append_assoc ns ms os), sym (append_assoc bs cs ds))
more_more l ns bs k ms cs (refused refusal at) = refl

more_chain : (l : ℕ) (ns : List Node) (bs : List ℕ) (y : Read) (c : Reader) (p n m : ℕ) (s : List ℕ)
    → chain (preceded l ns bs y) c p n m s ≡ preceded l ns bs (chain y c (p + l) (n + length ns) (m + length bs) (drop l s))
more_chain l ns bs (refused refusal at) c p n m s = refl
more_chain l ns bs (got k u ms cs) c p n m s =
    let a : p + (l + k) ≡ p + l + k = omega arith in
    let b : n + length (ns ++ ms) ≡ n + length ns + length ms = omega (arith, length-append ns ms) in
    let d : m + length (bs ++ cs) ≡ m + length bs + length cs = omega (arith, length-append bs cs) in
    rw (a, b, d, drop-drop k l s)
    (more_more l ns bs k ms cs (c (p + l + k) (n + length ns + length ms) (m + length bs + length cs) (drop (l + k) s)))

chain_assoc : (x : Read) (b c : Reader) (p n m : ℕ) (s : List ℕ) → chain (chain x b p n m s) c p n m s ≡ chain x (seq b c) p n m s
unfolding seq
chain_assoc (refused refusal at) b c p n m s = refl
chain_assoc (got l tag ns bs) b c p n m s = more_chain l ns bs (b (p + l) (n + length ns) (m + length bs) (drop l s)) c p n m s

seq_assoc_at : (a b c : Reader) (p n m : ℕ) (s : List ℕ) → seq (seq a b) c p n m s ≡ seq a (seq b c) p n m s
unfolding seq
seq_assoc_at a b c p n m s = chain_assoc (a p n m s) b c p n m s

pub seq_assoc : (a b c : Reader) → seq (seq a b) c ≡ seq a (seq b c)
seq_assoc a b c = λ i. λ p n m s. seq_assoc_at a b c p n m s i

seq_got : (a b : Reader) (p n m : ℕ) (s : List ℕ) (l tag : ℕ) (ns : List Node) (bs : List ℕ) → a p n m s ≡ got l tag ns bs
    → seq a b p n m s ≡ preceded l ns bs (b (p + l) (n + length ns) (m + length bs) (drop l s))
unfolding seq
seq_got a b p n m s l tag ns bs e = rw e

-- a refusal ends the run
pub seq_stop : (a b : Reader) (p n m : ℕ) (s : List ℕ) (refusal : Refusal) (q : ℕ) → a p n m s ≡ refused refusal q → seq a b p n m s ≡ refused refusal q
unfolding seq
seq_stop a b p n m s refusal q e = rw e

-- a reader that has been run, and then another
module _ (a b : Reader) (text : List ℕ) (at n m p i tag : ℕ) (t t1 : List ℕ)
    (w : Took text (a at n m (drop at text)) at n m p i tag t t1) where
  abbrev pub bytes : ℕ
  bytes = m + length (bytes_of text w.vs)

  seq_is : seq a b at n m (drop at text) ≡ preceded w.len (nodes_of m w.vs) (bytes_of text w.vs) (b p i bytes (drop p text))
  seq_is =
      let q : n + length (nodes_of m w.vs) ≡ i = omega (arith, w.nodes, nodes_length m w.vs) in
      seq_got a b at n m (drop at text) w.len tag (nodes_of m w.vs) (bytes_of text w.vs) w.same
      ∙ rw (drop-drop w.len at text, sym w.place, q)

  pub seq_took : (q k u : ℕ) (t2 : List ℕ) → Took text (b p i bytes (drop p text)) p i bytes q k u t1 t2
      → Took text (seq a b at n m (drop at text)) at n m q k u t t2
  seq_took q k u t2 v =
      record {
        len = w.len + v.len;
        vs = w.vs ++ v.vs;
        same =
            seq_is ∙ ap (preceded w.len (nodes_of m w.vs) (bytes_of text w.vs)) v.same
            ∙ ap₂ (λ (x : List Node) (y : List ℕ). got (w.len + v.len) u x y) (sym (nodes_append text m w.vs v.vs w.sound)) (sym (bytes_append text w.vs v.vs));
        place = omega (arith, w.place, v.place);
        nodes = omega (arith, w.nodes, v.nodes, length-append w.vs v.vs);
        table =
            v.table ∙ ap (λ (x : List ℕ). sets x i (notes v.vs)) w.table
            ∙ sets_append (notes w.vs) (notes v.vs) t n i (omega (arith, w.nodes, notes_length w.vs))
            ∙ ap (sets t n) (sym (notes_append w.vs v.vs));
        sound = sound_append text w.vs v.vs w.sound v.sound;
      }

  seq_by : (r : Result Noted Refused) (t2 : List ℕ) → ToldBy text (b p i bytes (drop p text)) p i bytes r t1 t2
      → ToldBy text (seq a b at n m (drop at text)) at n m r t t2
  seq_by (Err f) t2 e = seq_is ∙ ap (preceded w.len (nodes_of m w.vs) (bytes_of text w.vs)) e
  seq_by (Ok v) t2 w = seq_took v.at v.nodes 0 t2 w

  pub seq_told : (r : Result Noted Refused) (t2 : List ℕ) → Told text (b p i bytes (drop p text)) p i bytes r t1 t2
      → Told text (seq a b at n m (drop at text)) at n m r t t2
  seq_told r t2 v = record { so = seq_by r t2 v.so }

  pub seq_refused : (refusal : Refusal) (q : ℕ) → b p i bytes (drop p text) ≡ refused refusal q → seq a b at n m (drop at text) ≡ refused refusal q
  seq_refused refusal q e = seq_is ∙ ap (preceded w.len (nodes_of m w.vs) (bytes_of text w.vs)) e

-- a reader of no nodes doesn't see how many there are
abbrev pub Blind : Reader → Type 0
Blind a = (p n m : ℕ) (s : List ℕ) → a p n m s ≡ a p 0 0 s

pub spaces_blind : Blind spaces
unfolding spaces
spaces_blind p n m s = refl

pub colon_blind : Blind colon
unfolding colon
colon_blind p n m s = refl

pub comma_blind : (close : ℕ) → Blind (comma close)
unfolding comma
comma_blind close p n m s = refl

chain_blind : (b : Reader) → Blind b → (p n m : ℕ) (s : List ℕ) (r : Read) → chain r b p n m s ≡ chain r b p 0 0 s
chain_blind b h p n m s (refused refusal at) = refl
chain_blind b h p n m s (got l tag ns bs) =
    ap (preceded l ns bs) (h (p + l) (n + length ns) (m + length bs) (drop l s) ∙ sym (h (p + l) (0 + length ns) (0 + length bs) (drop l s)))

pub seq_blind : (a b : Reader) → Blind a → Blind b → Blind (seq a b)
unfolding seq
seq_blind a b f g p n m s = ap (λ (r : Read). chain r b p n m s) (f p n m s) ∙ chain_blind b g p n m s (a p 0 0 s)

pub went_took : (a : Reader) → Blind a → {text : List ℕ} {at n m p tag : ℕ} {rest t : List ℕ} → Went (a at 0 0 rest) at p tag
    → Took text (a at n m rest) at n m p n tag t t
unfolding notes nodes_of bytes_of
went_took a h {text} {at} {n} {m} {p} {tag} {rest} w =
    record {
      len = w.len;
      vs = [];
      same = h at n m rest ∙ w.same;
      place = w.place;
      nodes = omega arith;
      table = refl;
      sound = tt;
    }

-- a step, and then a reader
pub step_told : (a b : Reader) → Blind a → (text : List ℕ) (at n m p tag : ℕ) → Went (a at 0 0 (drop at text)) at p tag
    → (r : Result Noted Refused) (t t' : List ℕ) → Told text (b p n m (drop p text)) p n m r t t' → Told text (seq a b at n m (drop at text)) at n m r t t'
unfolding bytes_of went_took
step_told a b h text at n m p tag w r t t' v =
    seq_told a b text at n m p n tag t t (went_took a h w) r t'
    (subst (λ (j : ℕ). Told text (b p n j (drop p text)) p n j r t t') (sym (add-zero m)) v)

pub step_took : (a b : Reader) → Blind a → (text : List ℕ) (at n m p tag : ℕ) → Went (a at 0 0 (drop at text)) at p tag
    → (q k u : ℕ) (t t' : List ℕ) → Took text (b p n m (drop p text)) p n m q k u t t' → Took text (seq a b at n m (drop at text)) at n m q k u t t'
unfolding bytes_of went_took
step_took a b h text at n m p tag w q k u t t' v =
    seq_took a b text at n m p n tag t t (went_took a h w) q k u t'
    (subst (λ (j : ℕ). Took text (b p n j (drop p text)) p n j q k u t t') (sym (add-zero m)) v)

pub step_stop : (a b : Reader) → Blind a → (text : List ℕ) (at n m : ℕ) (refusal : Refusal) (q : ℕ) → a at 0 0 (drop at text) ≡ refused refusal q
    → seq a b at n m (drop at text) ≡ refused refusal q
step_stop a b h text at n m refusal q e = seq_stop a b at n m (drop at text) refusal q (h at n m (drop at text) ∙ e)

-- a step behind a step
step_by : (a b : Reader) (text : List ℕ) (at p tag : ℕ) → Went (a at 0 0 (drop at text)) at p tag → (r : Result Step Refused)
    → SteppedBy text (b p 0 0 (drop p text)) p r → SteppedBy text (seq a b at 0 0 (drop at text)) at r
step_by a b text at p tag w (Ok s) (v, e) = (
  record {
    len = w.len + v.len;
    same = seq_got a b at 0 0 (drop at text) w.len tag [] [] w.same ∙ rw (drop-drop w.len at text, sym w.place, v.same);
    place = omega (arith, w.place, v.place);
  },
  e,
)
step_by a b text at p tag w (Err f) v =
    seq_got a b at 0 0 (drop at text) w.len tag [] [] w.same ∙ rw (drop-drop w.len at text, sym w.place, v)

pub step_step : (a b : Reader) (text : List ℕ) (at p tag : ℕ) → Went (a at 0 0 (drop at text)) at p tag → (r : Result Step Refused)
    → Stepped text (b p 0 0 (drop p text)) p r → Stepped text (seq a b at 0 0 (drop at text)) at r
step_step a b text at p tag w r v = record { so = step_by a b text at p tag w r v.so }

-- where a run goes on
on_by : (k : ℕ) (text : List ℕ) (at n m p i tag : ℕ) (want : Read) (t t' : List ℕ) → Fair k at n (drop at text) want
    → Place text at n → Took text want at n m p i tag t t' → Place text p i × (at + k ≤ p)
on_by k text at n m p i tag want t t' f h w =
    let g : Fair k at n (drop at text) (got w.len tag (nodes_of m w.vs) (bytes_of text w.vs)) = subst (Fair k at n (drop at text)) w.same f in (
      record {
        short = h.short;
        inside = omega (arith, g.1, w.place, length-drop at text, h.inside);
        few = omega (arith, g.2, w.nodes, nodes_length m w.vs);
      },
      omega (arith, g.0, w.place),
    )

pub on : (a : Reader) (k : ℕ) → FairBy k a → {text : List ℕ} {at n m p i tag : ℕ} {t t' : List ℕ} → Place text at n
    → Took text (a at n m (drop at text)) at n m p i tag t t' → Place text p i × (at + k ≤ p)
on a k f {text} {at} {n} {m} {p} {i} {tag} {t} {t'} h w =
    on_by k text at n m p i tag (a at n m (drop at text)) t t' (f at n m (drop at text) h.few) h w

pub step_on : (a : Reader) (k : ℕ) → FairBy k a → {text : List ℕ} {at n p tag : ℕ} → Place text at n
    → Went (a at 0 0 (drop at text)) at p tag → Place text p n × (at + k ≤ p)
step_on a k f {text} {at} {n} {p} {tag} h w =
    let g : Fair k at 0 (drop at text) (got w.len tag [] []) =
    subst (Fair k at 0 (drop at text)) w.same (f at 0 0 (drop at text) (omega arith)) in
    (record { short = h.short; inside = omega (arith, g.1, w.place, length-drop at text, h.inside); few = h.few }, omega (arith, g.0, w.place))
