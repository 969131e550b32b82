use Rattle.std.proofs.Common.{◌≡◌, ◌<◌, [], ℕ, List, map, length, sym, ap, arith, subst, ◌∙◌}
use Rattle.std.specs.String.{string_bytes}
use Rattle.std.proofs.lemmas.Iterator.Adapters.{YieldsList-from_vec}
use Rattle.std.proofs.lemmas.Iterator.Consumers.{YieldsList-turn}
use Rattle.std.proofs.lemmas.List.{get_or-map, length-map, length_push}
use Rattle.ppshelf.specs.Names.{name_in}
use Rattle.ppshelf.proofs.NameRows.{Indexed, next_name, bad_name}
use Rattle.ppshelf.proofs.file_names.FileNames.from_strings.Goals as goal
use Rattle.ppshelf.proofs.file_names.FileNames.from_strings.Goals.{In-Some}

-- The current string is the next one.
here : (c : In-Some) → (length c.loop-name.yielded < length (map string_bytes c.args.strings.items))
    × (name_in (map string_bytes c.args.strings.items) (length c.loop-name.yielded) ≡ string_bytes c.in-Some.name)
here c =
    let strings = c.args.strings.items in
    let n = length c.loop-name.yielded in
    let gives = c.into_iter-name-iterator.ensures.into_iter_gives in
    let yields = YieldsList-from_vec {s = c.into_iter-name-iterator.result} strings gives.0 (gives.1 ∙ c.args.strings.ok.0) in
    let turn = YieldsList-turn yields c.loop-name.yielded c.loop-name.name-iterator c.loop-name.yielded_by c.next.result c.next.new.self c.in-Some.name c.in-Some.is c.next.ensures.steps in
    let within = turn.0 in
    let count = length-map strings string_bytes in
    (omega arith, get_or-map string_bytes strings n c.in-Some.name [] turn.0 ∙ ap string_bytes (sym turn.1))

pub returns-then-not-new-clause-fault : goal.returns-then-not-new-clause-fault
returns-then-not-new-clause-fault c =
    let turn = here (goal.at.returns-then-not-new-clause-fault c).In-Some in
    bad_name (map string_bytes c.args.strings.items) (length c.loop-name.yielded) c.len-row.result (string_bytes c.in-Some.name) c.loop-name.names.names c.push.new.self.names
    c.loop-name.invariant.names_are turn.0 turn.1 c.len-row.ensures c.in-Ok.new c.if-not-new.true c.in-Ok.ensures.put

pub loop-name-preserved : goal.loop-name-preserved
loop-name-preserved c =
    let all : List (List ℕ) = map string_bytes c.args.strings.items in
    let n = length c.loop-name.yielded in
    let turn = here (goal.at.loop-name-preserved c).In-Some in
    let P : ℕ → Type 0 = λ k. Indexed all k c.push.new.self.names in
    record {
      names_are = subst P (sym (length_push c.loop-name.yielded c.in-Some.name))
          (next_name all n (string_bytes c.in-Some.name) c.loop-name.names.names c.push.new.self.names c.loop-name.invariant.names_are turn.0 turn.1 c.in-Ok.new c.if-not-new.false c.in-Ok.ensures.put);
      hashing_is = c.push.ensures.hashing ∙ c.loop-name.invariant.hashing_is;
    }
