-- The ledger word keeps the laws.
use Rattle.std.specs.Prelude.{◌≡◌, ℕ, zero, suc, ◌+◌, ◌≤◌, min, ◌↔◌, ℤ, pos, negsuc, ◌-ℤ◌, ◌≢◌}
use Rattle.std.proofs.Common.{ap, ◌∙◌, sym, arith}
use Rattle.std.proofs.lemmas.Int.{ints}
use Rattle.arithmetic.specs.Words.{Word, Lawful, less}
use Rattle.arithmetic.specs.Stopping.{stopped, stopping}

-- below 0 no subtraction leads to 0
below : (k m : ℕ) → less stopping k (negsuc m) ≢ pos 0
below zero m e = omega (arith, ints, e)
below (suc k) m e = below k (min (suc (m + 0)) 99999998) e

one_less : (m : ℕ) → suc m ≤ 99999999 → stopped (pos (suc m) -ℤ pos 1) ≡ pos m
one_less m h = let e : pos (suc m) -ℤ pos 1 ≡ pos m = omega (arith, ints) in ap stopped e ∙ ap pos (omega arith)

above : (k m : ℕ) → m ≤ 99999999 → (less stopping k (pos m) ≡ pos 0) ↔ (pos m ≡ pos k)
above zero m h = ((λ e. e), (λ e. e))
above (suc k) zero h = ((λ e. absurd (below k 0 e)), (λ e. omega (arith, ints, e)))
above (suc k) (suc m) h =
    let e = ap (less stopping k) (one_less m h) in
    let i = above k m (omega arith) in
    ((λ z. let j = i.0 (sym e ∙ z) in omega (arith, ints, j)), (λ z. e ∙ i.1 (omega (arith, ints, z))))

counts : (k : ℕ) (n : ℤ) → Word stopping n → (less stopping k n ≡ pos 0) ↔ (n ≡ pos k)
counts k (pos m) w = above k m (omega (arith, ints, w.1))
counts k (negsuc m) w = ((λ e. absurd (below k m e)), (λ e. omega (arith, ints, e)))

within : (n : ℤ) → Word stopping (stopped n)
within (pos n) = (omega (arith, ints), omega (arith, ints))
within (negsuc n) = (omega (arith, ints), omega (arith, ints))

same : (n : ℤ) → Word stopping n → stopped n ≡ n
same (pos n) w = let h : n ≤ 99999999 = omega (arith, ints, w.1) in ap pos (omega arith)
same (negsuc n) w = let h : n ≤ 99999998 = omega (arith, ints, w.0) in ap negsuc (omega arith)

pub stopping_lawful : Lawful stopping
stopping_lawful = record {
  low = (omega (arith, ints), omega (arith, ints));
  high = (omega (arith, ints), omega (arith, ints));
  within = within;
  same = same;
  digit = λ n d h. ap pos (omega arith);
  counts = λ k h. counts k;
}
