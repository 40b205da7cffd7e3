-- Texts that are written one after another, all of each or a part.
use mathlib.Core.Path.{◌≡◌, refl, sym, ap, ◌∙◌, subst}
use mathlib.Core.Bool.{true≢false, Bool, true, false}
use mathlib.Core.List.{List, [], ◌++◌, append_assoc}
use Prim.Native.Nat.{ℕ, ◌+◌, ◌-◌, ◌≤◌, ◌<◌}
use native.Mathlib.Omega.{arith}
use lib.ListN.{length, take, drop, length-drop, length-append}
use lib.Seq.{take-add}
use Rattle.std.specs.Prelude.{Option, Result, Ok, Err, IsErr, is_ok}
use Rattle.std.specs.Io.KnownBytes.{Appends}
use Rattle.std.proofs.lemmas.List.{take_rest}
use Rattle.std.proofs.KnownBytes.{Appends-nil, Appends-trans}
use Rattle.sheet_stream.specs.Written.{AppendsPart, Wrote}

-- ---- a part of a text
module _ (w v : Option (List ℕ)) (text : List ℕ) where
  -- the text goes on
  pub part-of_more : (more : List ℕ) → AppendsPart w v text → AppendsPart w v (text ++ more)
  part-of_more more (part, left, split, some, appended) = (
    part,
    left ++ more,
    ap (λ (l : List ℕ). l ++ more) split ∙ append_assoc part left more,
    omega (arith, some, length-append left more),
    appended,
  )

  -- it is all of a text that goes on
  pub part-of_all : (more : List ℕ) → 0 < length more → Appends w v text → AppendsPart w v (text ++ more)
  part-of_all more some appended = (text, more, refl, some, appended)

-- a part of what follows a text
pub part-after : (w v u : Option (List ℕ)) (text more : List ℕ) → Appends w v text → AppendsPart v u more → AppendsPart w u (text ++ more)
part-after w v u text more all (part, left, split, some, appended) = (
  text ++ part,
  left,
  ap (λ (l : List ℕ). text ++ l) split ∙ sym (append_assoc text part left),
  some,
  Appends-trans w v u text part all appended,
)

-- ---- all or a part
pub wrote_none : (w : Option (List ℕ)) → Wrote w w true []
wrote_none w = record { all = λ e. Appends-nil w; part = λ e. absurd (true≢false e) }

pub wrote_more : (w v u : Option (List ℕ)) (whole : Bool) (text more : List ℕ) → Appends w v text → Wrote v u whole more → Wrote w u whole (text ++ more)
wrote_more w v u whole text more all next = record {
  all = λ e. Appends-trans w v u text more all (next.all e);
  part = λ e. part-after w v u text more all (next.part e);
}

pub wrote_at : (w v : Option (List ℕ)) (whole : Bool) (text other : List ℕ) → text ≡ other → Wrote w v whole text → Wrote w v whole other
wrote_at w v whole text other e r = subst (λ (l : List ℕ). Wrote w v whole l) e r

pub wrote_all : (w v : Option (List ℕ)) (text : List ℕ) → Appends w v text → Wrote w v true text
wrote_all w v text h = record { all = λ e. h; part = λ e. absurd (true≢false e) }

pub wrote_part : (w v : Option (List ℕ)) (text : List ℕ) → AppendsPart w v text → Wrote w v false text
wrote_part w v text h = record { all = λ e. absurd (true≢false (sym e)); part = λ e. h }

-- where a call failed
pub wrote_at-err : {A B : Type 0} (r : Result A B) (w v : Option (List ℕ)) (text : List ℕ) → IsErr r → Wrote w v false text → Wrote w v (is_ok r) text
wrote_at-err (Ok x) w v text e h = cc (e)
wrote_at-err (Err x) w v text e h = h

-- ---- a text's bytes, so many at once
pub more-within : (text : List ℕ) (done n : ℕ) → done ≤ length text → n ≤ length (take (length text - done) (drop done text)) → done + n ≤ length text
more-within text done n h k = omega (arith, h, k, ap length (take_rest text done), length-drop done text)

module _ (text : List ℕ) (w v u : Option (List ℕ)) (done : ℕ) (so_far : Appends w v (take done text)) where
  pub more-written : (n : ℕ) → Appends v u (take n (take (length text - done) (drop done text))) → Appends w u (take (done + n) text)
  more-written n next =
      let rest = subst (λ (l : List ℕ). Appends v u (take n l)) (take_rest text done) next in
      subst (λ (l : List ℕ). Appends w u l) (sym (take-add done n text)) (Appends-trans w v u (take done text) (take n (drop done text)) so_far rest)
