use Rattle.std.proofs.Common.{sym, refl, append-nil}
use Rattle.ppserve.proofs.in_memory.serve_in_memory.Goals as goal

pub returns-clause-ok : goal.returns-clause-ok
returns-clause-ok c = record {
  list = c.in_ok-list.list;
  reads = record {
    bytes = c.args.bytes.now;
    received = record { consumed = sym (append-nil c.args.bytes.now); whole = λ _. refl };
    is_list = c.in_ok-list.ensures.ok;
  };
  text = c.in_ok-printed.printed.text.items;
  is_output = c.in_ok-printed.ensures;
  appends = refl;
}
