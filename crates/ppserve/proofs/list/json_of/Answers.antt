use Rattle.std.proofs.Common.{inr, refl}
use Rattle.serde_json.specs.View.{view}
use Rattle.ppserve.proofs.JsonValue.{json_value-read, json_value-refused}
use Rattle.ppserve.proofs.list.json_of.Goals as goal

pub returns-in-Ok-clause-ok : goal.returns-in-Ok-clause-ok
returns-in-Ok-clause-ok c = json_value-read c.args.bytes.now (view c.in-Ok.value) c.in-Ok.ensures.ok.0 c.in-Ok.ensures.ok.1

pub returns-in_default-clause-err : goal.returns-in_default-clause-err
returns-in_default-clause-err c =
    inr (refl, json_value-refused c.args.bytes.now (c.in-Err.ensures.err (λ m. c.in_default.not-Memory (c.classify.ensures.memory.1 m))))
