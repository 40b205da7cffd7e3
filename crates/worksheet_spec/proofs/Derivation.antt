-- What is known when a line is written: given patterns, constants and earlier results; and what a sheet's lines lead to.
use mathlib.Core.Path.{◌≡◌, refl}
use mathlib.Core.Logic.{◌⊎◌, inl, inr}
use mathlib.Core.Bool.{Bool, true, false, cond}
use mathlib.Core.List.{List, [], ◌∷◌, ◌++◌}
use Prim.Native.Nat.{ℕ}
use Rattle.binary32_spec.specs.Steps.{sub_step, mul_step}
use Rattle.worksheet_spec.specs.Constants.{psi, two, minus_two, half, kappa, two_to_24, two_to_48, two_to_minus_24, plus_zero, factors, smallest}
use Rattle.worksheet_spec.specs.declared.Step.TheVariants.{Add as add, Subtract as subtract, Multiply as multiply}
use Rattle.worksheet_spec.specs.Lines.{Line, line, fused_line, Sheet, before, ends, minus, equal, is_zero_pattern}
use Rattle.worksheet_spec.specs.Sheets.{recomposition, zero_finish, recomposed_finished, at_edge, edge_finish}
use Rattle.worksheet_spec.specs.Theorems.{Among, Member, Known, results}

-- ---- members
pub here : (p : ℕ) (ks : List ℕ) → Among p (p ∷ ks)
unfolding Among
here p ks = inl refl

pub flipped : (p : ℕ) (ks : List ℕ) → Among (minus p) (p ∷ ks)
unfolding Among
flipped p ks = inr (inl refl)

pub there : (k p : ℕ) (ks : List ℕ) → Among p ks → Among p (k ∷ ks)
unfolding Among
there k p ks h = inr (inr h)

pub left : (p : ℕ) (ks ms : List ℕ) → Among p ks → Among p (ks ++ ms)
unfolding Among
left p [] ms h = absurd h
left p (k ∷ ks) ms h = elim h [ inl e ↦ inl e | inr g ↦ elim g [ inl e ↦ inr (inl e) | inr i ↦ inr (inr (left p ks ms i)) ] ]

pub right : (p : ℕ) (ks ms : List ℕ) → Among p ms → Among p (ks ++ ms)
unfolding Among
right p [] ms h = h
right p (k ∷ ks) ms h = inr (inr (right p ks ms h))

pub among-cond : (c : Bool) (p q : ℕ) (ks : List ℕ) → Among p ks → Among q ks → Among (cond c p q) ks
among-cond true p q ks h k = h
among-cond false p q ks h k = k

-- ---- results so far, the last one first
unfoldable pub after : List ℕ → List Line → List ℕ
after rs [] = rs
after rs (l ∷ ls) = after (l.result ∷ rs) ls

-- they only grow
pub grown : (p : ℕ) (rs : List ℕ) (ls : List Line) → Among p rs → Among p (after rs ls)
unfolding after
grown p rs [] h = h
grown p rs (l ∷ ls) h = grown p (l.result ∷ rs) ls (there l.result p rs h)

after-append : (rs : List ℕ) (ls ms : List Line) → after rs (ls ++ ms) ≡ after (after rs ls) ms
unfolding after
after-append rs [] ms = refl
after-append rs (l ∷ ls) ms = after-append (l.result ∷ rs) ls ms

-- a result is one of what was there before, or of the lines' own
from-after : (p : ℕ) (rs : List ℕ) (ls : List Line) → Among p (after rs ls) → Among p rs ⊎ Among p (results ls)
unfolding after Among
from-after p rs [] h = inl h
from-after p rs (l ∷ ls) h =
    elim (from-after p (l.result ∷ rs) ls h) [
      | inl g ↦ elim g [ inl e ↦ inr (inl e) | inr i ↦ elim i [ inl e ↦ inr (inr (inl e)) | inr j ↦ inl j ] ]
      | inr g ↦ inr (inr (inr g))
    ]

pub own : (p : ℕ) (ls : List Line) → Among p (after [] ls) → Among p (results ls)
unfolding Among
own p ls h = elim (from-after p [] ls h) [ inl g ↦ absurd g | inr g ↦ g ]

-- ---- the factors
pub psi-in : Member psi factors
unfolding Member
psi-in = inl refl

pub two_in : Member two factors
unfolding Member
two_in = inr (inl refl)

pub minus-two-in : Member minus_two factors
unfolding Member
minus-two-in = inr (inr (inl refl))

pub half_in : Member half factors
unfolding Member
half_in = inr (inr (inr (inl refl)))

pub kappa-in : Member kappa factors
unfolding Member
kappa-in = inr (inr (inr (inr (inl refl))))

pub up_in : Member two_to_24 factors
unfolding Member
up_in = inr (inr (inr (inr (inr (inl refl)))))

pub up-up-in : Member two_to_48 factors
unfolding Member
up-up-in = inr (inr (inr (inr (inr (inr (inl refl))))))

pub down-in : Member two_to_minus_24 factors
unfolding Member
down-in = inr (inr (inr (inr (inr (inr (inr (inl refl)))))))

pub zero_in : Member plus_zero factors
unfolding Member
zero_in = inr (inr (inr (inr (inr (inr (inr (inr (inl refl))))))))

-- ---- what is given: the question's patterns
module _ (B : List ℕ) where
  abbrev pub Leads : List ℕ → Sheet → Type 0
  Leads rs s = Known (rs ++ B) s.lines × Among s.first (after rs s.lines) × Among s.second (after rs s.lines)

  -- ---- one line more
  module _ (p q r : ℕ) (rs : List ℕ) (s : Sheet) where
    pub adds : Among p (rs ++ B) → Among q (rs ++ B) → Leads (r ∷ rs) s → Leads rs (before (line add p q r ∷ []) s)
    unfolding Known after
    adds h k l = (((h, k), l.0), l.1, l.2)

    pub subtracts : Among p (rs ++ B) → Among q (rs ++ B) → Leads (r ∷ rs) s → Leads rs (before (line subtract p q r ∷ []) s)
    unfolding Known after
    subtracts h k l = (((h, inl k), l.0), l.1, l.2)

    -- u with a sign
    pub lowers : Among p (rs ++ B) → Among q (smallest ∷ []) → Leads (r ∷ rs) s → Leads rs (before (line subtract p q r ∷ []) s)
    unfolding Known after
    lowers h k l = (((h, inr k), l.0), l.1, l.2)

    pub multiplies : Among p (rs ++ B) → Among q (rs ++ B) → Leads (r ∷ rs) s → Leads rs (before (line multiply p q r ∷ []) s)
    unfolding Known after
    multiplies h k l = (((inl h, k), l.0), l.1, l.2)

    -- by a constant
    pub scales : Member p factors → Among q (rs ++ B) → Leads (r ∷ rs) s → Leads rs (before (line multiply p q r ∷ []) s)
    unfolding Known after
    scales h k l = (((inr h, k), l.0), l.1, l.2)

  pub fuses : (p q z r : ℕ) (rs : List ℕ) (s : Sheet) → Among p (rs ++ B) → Among q (rs ++ B) → Among z (rs ++ B) → Leads (r ∷ rs) s → Leads rs (before (fused_line p q z r ∷ []) s)
  unfolding Known after
  fuses p q z r rs s h k m l = (((h, k, m), l.0), l.1, l.2)

  pub stop : (p q : ℕ) (rs : List ℕ) → Among p rs → Among q rs → Leads rs (ends p q)
  unfolding Known after
  stop p q rs h k = (tt, h, k)

  pub leads-cond : (c : Bool) (rs : List ℕ) (s t : Sheet) → Leads rs s → Leads rs t → Leads rs (cond c s t)
  leads-cond true rs s t h k = h
  leads-cond false rs s t h k = k

  -- lines of any number
  known-append : (rs : List ℕ) (ls ms : List Line) → Known (rs ++ B) ls → Known (after rs ls ++ B) ms → Known (rs ++ B) (ls ++ ms)
  unfolding Known after
  known-append rs [] ms h k = k
  known-append rs (l ∷ ls) ms h k = (h.0, known-append (l.result ∷ rs) ls ms h.1 k)

  pub lines : (rs : List ℕ) (ls : List Line) (s : Sheet) → Known (rs ++ B) ls → Leads (after rs ls) s → Leads rs (before ls s)
  lines rs ls s h l = (known-append rs ls s.lines h l.0, rw (after-append rs ls s.lines) l.1, rw (after-append rs ls s.lines) l.2)

  -- ---- the parts
  -- a, b and -b are among the results so far
  module _ (rs : List ℕ) (a b : ℕ) (ha : Among a rs) (hb : Among b rs) (hm : Among (minus b) rs) where
    pub recomposition-leads : Leads rs (recomposition a b)
    unfolding recomposition
    recomposition-leads =
        let z = mul_step psi a in
        let d = sub_step z a in
        let e = mul_step two b in
        let known = e ∷ d ∷ z ∷ rs in
        scales psi a z rs _ psi-in (left a rs B ha)
        (subtracts z a d (z ∷ rs) _ (here z (rs ++ B)) (left a (z ∷ rs) B (there z a rs ha))
        (scales two b e (d ∷ z ∷ rs) _ two_in (left b (d ∷ z ∷ rs) B (there d b (z ∷ rs) (there z b rs hb)))
        (stop (cond (equal e d) z a) (cond (equal e d) (minus b) b) known
        (among-cond (equal e d) z a known (there e z (d ∷ z ∷ rs) (there d z (z ∷ rs) (here z rs))) (grow3 z d e a ha))
        (among-cond (equal e d) (minus b) b known (grow3 z d e (minus b) hm) (grow3 z d e b hb)))))
      where
        grow3 : (z d e p : ℕ) → Among p rs → Among p (e ∷ d ∷ z ∷ rs)
        grow3 z d e p h = there e p (d ∷ z ∷ rs) (there d p (z ∷ rs) (there z p rs h))

  pub finish-leads : (rs : List ℕ) (x y : ℕ) → Among x rs → Among y rs → Leads rs (zero_finish x y)
  unfolding zero_finish
  finish-leads rs x y hx hy =
      let n = mul_step plus_zero x in
      leads-cond (is_zero_pattern y) rs (before (line multiply plus_zero x n ∷ []) (ends x n)) (ends x y)
      (scales plus_zero x n rs (ends x n) zero_in (left x rs B hx) (stop x n (n ∷ rs) (there n x rs hx) (here n rs))) (stop x y rs hx hy)

  pub recomposed-leads : (rs : List ℕ) (a b : ℕ) → Among a rs → Among b rs → Among (minus b) rs → Leads rs (recomposed_finished a b)
  unfolding recomposed_finished
  recomposed-leads rs a b ha hb hm =
      let r = recomposition a b in
      let l = recomposition-leads rs a b ha hb hm in
      lines rs r.lines (zero_finish r.first r.second) l.0 (finish-leads (after rs r.lines) r.first r.second l.1 l.2)

  pub edge_leads : (rs : List ℕ) (a a' b' : ℕ) → Among a rs → Among a' rs → Among b' rs → Leads rs (edge_finish a a' b')
  unfolding edge_finish
  edge_leads rs a a' b' ha hf hs =
      let f = mul_step kappa a' in
      let s = mul_step minus_two b' in
      leads-cond (at_edge a' b') rs (before (line multiply kappa a' f ∷ line multiply minus_two b' s ∷ []) (ends f s)) (ends a a)
      (scales kappa a' f rs _ kappa-in (left a' rs B hf)
      (scales minus_two b' s (f ∷ rs) (ends f s) minus-two-in (left b' (f ∷ rs) B (there f b' rs hs))
      (stop f s (s ∷ f ∷ rs) (there s f (f ∷ rs) (here f rs)) (here s (f ∷ rs)))))
      (stop a a rs ha ha)
