use Rattle.std.proofs.Common.{◌∙◌, sym, ap}
use Rattle.ppserve.specs.Listing.{verdict_of}
use Rattle.ppserve.proofs.serving.receive.Goals as goal

pub returns-clause-ok : goal.returns-clause-ok
returns-clause-ok g c = record {
  bytes = c.in_ok-bytes.bytes.items;
  received = c.in_ok-bytes.ensures.ok;
  is_list = ap (verdict_of c.args.inline) (sym c.as_slice.ensures.value) ∙ c.in_ok-read_list.ensures.ok;
}
