-- What a tray means.
use Rattle.std.specs.Prelude.{◌≡◌, ℕ, ◌-◌, ◌≤◌, Bool, true, false, cond, List, [], ◌∷◌, length, take, drop, ℤ, take_while, refl}
use Rattle.std.proofs.Common.{◌∙◌, le_refl, le_trans, arith}
use Rattle.std.proofs.lemmas.List.Sums.{take_while-cons}
use Rattle.host.specs.Parts.{take_earlier, drop_later}
use Rattle.host.specs.Meaning.{Meaning, meaning, Mark, short, ShortLines, Light}
use Rattle.host.specs.declared.tray.Tray.{Tray}

-- the numbers up to the first of more than 18 digits
abbrev pub up_to_long : List ℤ → List ℤ
up_to_long zs = take_while short zs

-- every weight is 1
abbrev pub unit_weight : Mark → ℕ
unit_weight m = 1

abbrev pub tray_meaning : Tray → Meaning
tray_meaning t = meaning (up_to_long (drop t.next t.numbers.now)) (take t.count t.marks.now) (length t.marks.now - t.count)

-- Of a tray, calls keep the two lists that it is lent, what it has printed and the entries beyond what it prints.
pub record TrayKeeps (a b : Tray) : Type 0 where
  pub numbers : b.numbers ≡ a.numbers
  pub marks : b.marks.ghost_name ≡ a.marks.ghost_name
  pub forward : a.count ≤ b.count
  pub size : length b.marks.now ≡ length a.marks.now
  pub before : take a.count b.marks.now ≡ take a.count a.marks.now
  pub beyond : drop b.count b.marks.now ≡ drop b.count a.marks.now

pub tray_still : (a : Tray) → TrayKeeps a a
tray_still a = record { numbers = refl; marks = refl; forward = le_refl a.count; size = refl; before = refl; beyond = refl }

pub tray_along : (a b c : Tray) → TrayKeeps a b → TrayKeeps b c → TrayKeeps a c
tray_along a b c p q =
    record {
      numbers = q.numbers ∙ p.numbers;
      marks = q.marks ∙ p.marks;
      forward = le_trans p.forward q.forward;
      size = q.size ∙ p.size;
      before = take_earlier a.count b.count c.marks.now b.marks.now p.forward q.before ∙ p.before;
      beyond = q.beyond ∙ drop_later b.count c.count b.marks.now a.marks.now q.forward p.beyond;
    }

pub tray_light : Light unit_weight
tray_light m h = (omega arith, omega arith)

short_if : (z : ℤ) (zs : List ℤ) (b : Bool) → short z ≡ b → ShortLines zs → ShortLines (cond b (z ∷ zs) [])
short_if z zs true e s = (e, s)
short_if z zs false e s = tt

pub up_to_long_short : (zs : List ℤ) → ShortLines (up_to_long zs)
up_to_long_short [] = tt
up_to_long_short (z ∷ zs) = rw take_while-cons (short_if z (up_to_long zs) (short z) refl (up_to_long_short zs))

pub tray_short : (t : Tray) → ShortLines (tray_meaning t).lines
tray_short t = up_to_long_short (drop t.next t.numbers.now)
