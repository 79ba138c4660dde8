use Rattle.std.proofs.Common.{◌+◌, refl, arith, length-set, drop-set-lt}
use Rattle.std.proofs.lemmas.List.{take-set}
use Rattle.lines.specs.Readers.{to_read}
use Rattle.text_host.specs.declared.text.TextHost.{TextHost}
use Rattle.text_host.proofs.Printing.{Holds, low, between, after, meant, front, size, beyond}
use Rattle.text_host.proofs.text.TextHost.print.Goals as goal

held : (h : TextHost) → Holds h.output.now h.written h.lengths.now h.count
held h = record { room = h.room; fewer = h.fewer; whole = h.whole; text = h.text }

pub invariant_of-self : goal.invariant_of-self
invariant_of-self c =
    let s = c.args.self.now in
    let t = between _ _ _ _ c.args.mark (held s) c.requires (omega arith) _ c.write.ensures in
    record { room = t.room; fewer = t.fewer; whole = t.whole; text = t.text }

pub bounds-self-self : goal.bounds-self-self
bounds-self-self c = low _ _ _ _ c.args.mark (held c.args.self.now) c.requires (omega arith)

pub invariant_of-self-2 : goal.invariant_of-self-2
invariant_of-self-2 c =
    let s = c.args.self.now in
    let t = after _ _ _ _ c.args.mark (held s) c.requires (omega arith) _ c.write.ensures c.weigh-weight.result _ c.weigh-weight.ensures (omega arith) in
    record { room = t.room; fewer = t.fewer; whole = t.whole; text = t.text }

pub returns-clause-after : goal.returns-clause-after
returns-clause-after c =
    let s = c.args.self.now in
    meant _ _ _ _ c.args.mark (held s) c.requires (omega arith) _ c.write.ensures c.weigh-weight.result _ c.weigh-weight.ensures (omega arith) (to_read s.input)

pub returns-clause-kept : goal.returns-clause-kept
returns-clause-kept c =
    let s = c.args.self.now in
    record {
      input = refl;
      output = refl;
      lengths = refl;
      output_size = size _ _ _ _ c.args.mark (held s) c.requires (omega arith) _ c.write.ensures;
      lengths_size = length-set _ _ _;
      bytes_forward = omega arith;
      marks_forward = omega arith;
      output_before = front _ _ _ _ c.args.mark (held s) c.requires (omega arith) _ c.write.ensures;
      output_beyond = beyond _ _ _ _ c.args.mark (held s) c.requires (omega arith) _ c.write.ensures _ (omega arith);
      lengths_before = take-set _ _ _;
      lengths_beyond = drop-set-lt (s.count + 1) s.lengths.now s.count _ (omega arith);
    }
