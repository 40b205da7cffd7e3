-- Words as lines: line by line, in two parts, and how many there are.
use mathlib.Core.Path.{◌≡◌, refl, sym, ap, ◌∙◌}
use mathlib.Core.List.{List, [], ◌∷◌, ◌++◌, nil≢cons, head-eq_of_cons-eq}
use Prim.Native.Nat.{ℕ, zero, suc, ◌+◌, ◌-◌, ◌*◌, ◌/◌, ◌≤◌, ◌<◌}
use native.Mathlib.Omega.{arith}
use lib.ListN.{length, take, drop, get_or, take-append-drop, length-drop}
use lib.Seq.{drop-cons, drop-drop, take-add, length-take-le}
use Rattle.std.specs.Simd.{first_chunks}
use Rattle.worksheet_spec.specs.Lines.{line_size}
use Rattle.marking_spec.specs.declared.Claim.{Claim}
use Rattle.marking_spec.specs.Marking.{claims}
use Rattle.marking_spec.specs.Theorems.{claims_words}

-- the line that begins at a word
abbrev pub claim_at : List ℕ → ℕ → Claim
claim_at ws at =
    record { step = get_or ws at 0; x = get_or ws (at + 1) 0; y = get_or ws (at + 2) 0; z = get_or ws (at + 3) 0; result = get_or ws (at + 4) 0; mark = get_or ws (at + 5) 0 }

word_at : (ws : List ℕ) (i j : ℕ) → i < length ws → suc i ≡ j → (vs : List ℕ) → drop j ws ≡ vs → drop i ws ≡ get_or ws i 0 ∷ vs
word_at ws i j h e vs k = drop-cons ws i 0 h ∙ ap (λ (n : ℕ). get_or ws i 0 ∷ drop n ws) e ∙ ap (λ (us : List ℕ). get_or ws i 0 ∷ us) k

pub claims-at : (ws : List ℕ) (at : ℕ) → at + line_size ≤ length ws → claims (drop at ws) ≡ claim_at ws at ∷ claims (drop (at + line_size) ws)
unfolding claims
claims-at ws at h =
    ap claims
    (word_at ws at (at + 1) (omega arith) (omega arith) _
    (word_at ws (at + 1) (at + 2) (omega arith) (omega arith) _
    (word_at ws (at + 2) (at + 3) (omega arith) (omega arith) _
    (word_at ws (at + 3) (at + 4) (omega arith) (omega arith) _
    (word_at ws (at + 4) (at + 5) (omega arith) (omega arith) _
    (word_at ws (at + 5) (at + line_size) (omega arith) (omega arith) _ refl))))))

-- fewer than six words are no line
pub claims-short : (ws : List ℕ) → length ws < line_size → claims ws ≡ []
unfolding claims
claims-short [] h = refl
claims-short (a ∷ []) h = refl
claims-short (a ∷ b ∷ []) h = refl
claims-short (a ∷ b ∷ c ∷ []) h = refl
claims-short (a ∷ b ∷ c ∷ d ∷ []) h = refl
claims-short (a ∷ b ∷ c ∷ d ∷ e ∷ []) h = refl
claims-short (a ∷ b ∷ c ∷ d ∷ e ∷ f ∷ ws) h = absurd (omega arith)

-- ---- one line, alone and as the next of many
pub one_line : (ws : List ℕ) → length ws ≡ line_size → claims ws ≡ claim_at ws 0 ∷ []
one_line ws h = claims-at ws 0 (omega arith) ∙ ap (λ (ls : List Claim). claim_at ws 0 ∷ ls) (claims-short (drop line_size ws) (omega (arith, length-drop line_size ws)))

-- ---- whole lines, and more words after them
pub claims-append : (k : ℕ) (us vs : List ℕ) → length us ≡ line_size * k → claims (us ++ vs) ≡ claims us ++ claims vs
unfolding claims
claims-append k [] vs h = refl
claims-append k (a ∷ []) vs h = absurd (omega arith)
claims-append k (a ∷ b ∷ []) vs h = absurd (omega arith)
claims-append k (a ∷ b ∷ c ∷ []) vs h = absurd (omega arith)
claims-append k (a ∷ b ∷ c ∷ d ∷ []) vs h = absurd (omega arith)
claims-append k (a ∷ b ∷ c ∷ d ∷ e ∷ []) vs h = absurd (omega arith)
claims-append k (a ∷ b ∷ c ∷ d ∷ e ∷ f ∷ us) vs h =
    ap (λ (ls : List Claim). record { step = a; x = b; y = c; z = d; result = e; mark = f } ∷ ls) (claims-append (k - 1) us vs (omega arith))

pub claims-count : (k : ℕ) (ws : List ℕ) → length ws ≡ line_size * k → length (claims ws) ≡ k
unfolding claims
claims-count k [] h = omega arith
claims-count k (a ∷ []) h = absurd (omega arith)
claims-count k (a ∷ b ∷ []) h = absurd (omega arith)
claims-count k (a ∷ b ∷ c ∷ []) h = absurd (omega arith)
claims-count k (a ∷ b ∷ c ∷ d ∷ []) h = absurd (omega arith)
claims-count k (a ∷ b ∷ c ∷ d ∷ e ∷ []) h = absurd (omega arith)
claims-count k (a ∷ b ∷ c ∷ d ∷ e ∷ f ∷ ws) h = omega (arith, claims-count (k - 1) ws (omega arith))

pub words_of : (k : ℕ) (ws : List ℕ) → length ws ≡ line_size * k → claims_words (claims ws) ≡ ws
unfolding claims
words_of k [] h = refl
words_of k (a ∷ []) h = absurd (omega arith)
words_of k (a ∷ b ∷ []) h = absurd (omega arith)
words_of k (a ∷ b ∷ c ∷ []) h = absurd (omega arith)
words_of k (a ∷ b ∷ c ∷ d ∷ []) h = absurd (omega arith)
words_of k (a ∷ b ∷ c ∷ d ∷ e ∷ []) h = absurd (omega arith)
words_of k (a ∷ b ∷ c ∷ d ∷ e ∷ f ∷ ws) h = ap (λ (vs : List ℕ). a ∷ b ∷ c ∷ d ∷ e ∷ f ∷ vs) (words_of (k - 1) ws (omega arith))

first-line : (ws : List ℕ) (l : Claim) (ls : List Claim) → claims ws ≡ l ∷ ls → claims (take line_size ws) ≡ l ∷ []
unfolding claims
first-line [] l ls e = absurd (nil≢cons e)
first-line (a ∷ []) l ls e = absurd (nil≢cons e)
first-line (a ∷ b ∷ []) l ls e = absurd (nil≢cons e)
first-line (a ∷ b ∷ c ∷ []) l ls e = absurd (nil≢cons e)
first-line (a ∷ b ∷ c ∷ d ∷ []) l ls e = absurd (nil≢cons e)
first-line (a ∷ b ∷ c ∷ d ∷ e ∷ []) l ls i = absurd (nil≢cons i)
first-line (a ∷ b ∷ c ∷ d ∷ e ∷ f ∷ ws) l ls i = ap (λ (k : Claim). k ∷ []) (head-eq_of_cons-eq i)

-- ---- words cut into lines
-- the ith of them
pub chunk-is : (k i at : ℕ) (ws : List ℕ) → i < k → at ≡ line_size * i → get_or (first_chunks line_size k ws) i [] ≡ take line_size (drop at ws)
chunk-is zero i at ws h e = absurd (omega arith)
chunk-is (suc k) zero at ws h e = ap (λ (j : ℕ). take line_size (drop j ws)) (sym e)
chunk-is (suc k) (suc i) at ws h e =
    chunk-is k i (line_size * i) (drop line_size ws) (omega arith) refl
    ∙ ap (take line_size) (drop-drop (line_size * i) line_size ws)
    ∙ ap (λ (j : ℕ). take line_size (drop j ws)) (omega arith)

-- that line, as it stands among the words
pub line-at : (ws : List ℕ) (at : ℕ) (l : Claim) → at + line_size ≤ length ws → claims (take line_size (drop at ws)) ≡ l ∷ []
    → claims (drop at ws) ≡ l ∷ claims (drop (at + line_size) ws)
line-at ws at l h e =
    let k = claims-at ws at h in
    k ∙ ap (λ (i : Claim). i ∷ claims (drop (at + line_size) ws)) (head-eq_of_cons-eq (sym (first-line (drop at ws) (claim_at ws at) _ k) ∙ e))

pub cut-at : (ws : List ℕ) (lines : List (List ℕ)) (i at : ℕ) (l : Claim) → lines ≡ first_chunks line_size (length ws / line_size) ws
    → i < length ws / line_size → at ≡ line_size * i → claims (get_or lines i []) ≡ l ∷ [] → claims (drop at ws) ≡ l ∷ claims (drop (at + line_size) ws)
cut-at ws lines i at l cut h e is =
    let same = ap (λ (ls : List (List ℕ)). get_or ls i []) cut ∙ chunk-is (length ws / line_size) i at ws h e in
    line-at ws at l (omega arith) (ap claims (sym same) ∙ is)

-- ---- the words before a line, the line, and those behind it
module _ (ws : List ℕ) (at k : ℕ) (whole : at ≡ line_size * k) where
  pub claims-split : at ≤ length ws → claims ws ≡ claims (take at ws) ++ claims (drop at ws)
  claims-split h = ap claims (sym (take-append-drop at ws)) ∙ claims-append k (take at ws) (drop at ws) (length-take-le at ws h ∙ whole)

  module _ (l : Claim) (inside : at + line_size ≤ length ws) (is : claims (drop at ws) ≡ l ∷ claims (drop (at + line_size) ws)) where
    pub claims-next : claims (take (at + line_size) ws) ≡ claims (take at ws) ++ (l ∷ [])
    claims-next =
        ap claims (take-add at line_size ws)
        ∙ claims-append k (take at ws) (take line_size (drop at ws)) (length-take-le at ws (omega arith) ∙ whole)
        ∙ ap (λ (ls : List Claim). claims (take at ws) ++ ls) (first-line (drop at ws) l _ is)
