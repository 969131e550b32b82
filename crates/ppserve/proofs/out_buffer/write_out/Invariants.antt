use Rattle.std.proofs.Common.{◌≡◌, length, ◌-◌, ◌≤◌, take, false}
use Rattle.std.specs.Io.KnownBytes.{Appends}
use Rattle.ppserve.proofs.out_buffer.write_out.Given as goal

abbrev pub invariant-loop-done : goal.invariant-loop-done
invariant-loop-done g l = record {
  within : l.done ≤ length l.bytes;
  unfailed : g.W.Sink.has_failed l.writer ≡ false;
  was_unfailed : g.W.Sink.has_failed l.initial.writer ≡ false;
  out : Appends (g.W.Sink.written l.initial.writer) (g.W.Sink.written l.writer) (take l.done l.bytes);
}

abbrev pub decreases-loop-done : goal.decreases-loop-done
decreases-loop-done g l = length l.bytes - l.done
