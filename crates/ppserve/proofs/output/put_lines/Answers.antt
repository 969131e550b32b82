use Rattle.std.proofs.Common.{sym, append-nil}
use Rattle.ppserve.proofs.RecordLines.{lines_of_tokens}
use Rattle.ppserve.proofs.BufferedPrinting.{puts_as}
use Rattle.ppserve.proofs.output.put_lines.Goals as goal

pub returns-in-First : goal.returns-in-First
returns-in-First g c = rw c.in-First.is (puts_as (sym (append-nil _)) c.put_first.ensures)

pub returns-in-Tokens : goal.returns-in-Tokens
returns-in-Tokens g c = rw (c.in-Tokens.is, lines_of_tokens) c.put_tokens.ensures

pub returns-in-Pragma : goal.returns-in-Pragma
returns-in-Pragma g c = rw c.in-Pragma.is (puts_as (sym (append-nil _)) c.put_pragma.ensures)

pub returns-in-Last : goal.returns-in-Last
returns-in-Last g c = rw c.in-Last.is (puts_as (sym (append-nil _)) c.put_last.ensures)

pub returns-in-Segment : goal.returns-in-Segment
returns-in-Segment g c = rw c.in-Segment.is (puts_as (sym (append-nil _)) c.put_segment.ensures)

pub returns-in-Faulty : goal.returns-in-Faulty
returns-in-Faulty g c = rw c.in-Faulty.is (puts_as (sym (append-nil _)) c.put_faulty.ensures)
