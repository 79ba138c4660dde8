-- What a text host means.
use Rattle.std.specs.Prelude.{◌≡◌, ◌-◌, ◌≤◌, min, length, take, drop, pos, negsuc, refl}
use Rattle.std.proofs.Common.{◌∙◌, le_refl, le_trans, arith}
use Rattle.std.proofs.lemmas.Int.{ints}
use Rattle.std.proofs.lemmas.Fmt.{decimal_nonempty, length_signed_le}
use Rattle.host.specs.Meaning.{Meaning, meaning, ShortLines, Light}
use Rattle.host.specs.Parts.{take_earlier, drop_later}
use Rattle.host.specs.declared.mark.Mark.TheVariants.{Number, LineEnd}
use Rattle.lines.specs.Readers.{to_read}
use Rattle.lines.proofs.Bounds.{numbers_short}
use Rattle.text_host.specs.Rendering.{marks_of, byte_weight}
use Rattle.text_host.specs.declared.text.TextHost.{TextHost}

abbrev pub text_meaning : TextHost → Meaning
text_meaning h =
    meaning (to_read h.input) (marks_of (take h.count h.lengths.now) h.output.now) (min (length h.output.now) (length h.lengths.now) - h.written)

pub text_short : (h : TextHost) → ShortLines (text_meaning h).lines
text_short h = numbers_short ShortLines tt (λ z zs s r. (s, r)) (drop h.input.at h.input.text.now) h.input.ok.1

-- Of a text host, calls keep the lists that it is lent, what it has printed and the entries beyond what it prints.
pub record TextKeeps (a b : TextHost) : Type 0 where
  pub input : b.input.text ≡ a.input.text
  pub output : b.output.ghost_name ≡ a.output.ghost_name
  pub lengths : b.lengths.ghost_name ≡ a.lengths.ghost_name
  pub output_size : length b.output.now ≡ length a.output.now
  pub lengths_size : length b.lengths.now ≡ length a.lengths.now
  pub bytes_forward : a.written ≤ b.written
  pub marks_forward : a.count ≤ b.count
  pub output_before : take a.written b.output.now ≡ take a.written a.output.now
  pub output_beyond : drop b.written b.output.now ≡ drop b.written a.output.now
  pub lengths_before : take a.count b.lengths.now ≡ take a.count a.lengths.now
  pub lengths_beyond : drop b.count b.lengths.now ≡ drop b.count a.lengths.now

pub text_still : (a : TextHost) → TextKeeps a a
text_still a =
    record {
      input = refl;
      output = refl;
      lengths = refl;
      output_size = refl;
      lengths_size = refl;
      bytes_forward = le_refl a.written;
      marks_forward = le_refl a.count;
      output_before = refl;
      output_beyond = refl;
      lengths_before = refl;
      lengths_beyond = refl;
    }

pub text_along : (a b c : TextHost) → TextKeeps a b → TextKeeps b c → TextKeeps a c
text_along a b c p q =
    record {
      input = q.input ∙ p.input;
      output = q.output ∙ p.output;
      lengths = q.lengths ∙ p.lengths;
      output_size = q.output_size ∙ p.output_size;
      lengths_size = q.lengths_size ∙ p.lengths_size;
      bytes_forward = le_trans p.bytes_forward q.bytes_forward;
      marks_forward = le_trans p.marks_forward q.marks_forward;
      output_before = take_earlier a.written b.written c.output.now b.output.now p.bytes_forward q.output_before ∙ p.output_before;
      output_beyond = q.output_beyond ∙ drop_later b.written c.written b.output.now a.output.now q.bytes_forward p.output_beyond;
      lengths_before = take_earlier a.count b.count c.lengths.now b.lengths.now p.marks_forward q.lengths_before ∙ p.lengths_before;
      lengths_beyond = q.lengths_beyond ∙ drop_later b.count c.count b.lengths.now a.lengths.now q.marks_forward p.lengths_beyond;
    }

-- a number of 32 bits takes from 1 to 11 bytes
pub text_light : Light byte_weight
text_light (Number (pos n)) h =
    let f : n ≤ 2147483647 = omega (arith, ints, h.1) in (decimal_nonempty n (omega (arith, f)), length_signed_le 10 (pos n) (omega (arith, f)) (omega (arith, f)))
text_light (Number (negsuc n)) h =
    let f : n ≤ 2147483647 = omega (arith, ints, h.0) in (omega arith, length_signed_le 10 (negsuc n) (omega (arith, f)) (omega (arith, f)))
text_light LineEnd h = (omega arith, omega arith)
