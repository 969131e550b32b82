use Rattle.std.proofs.Common.{◌≡◌, ◌<◌, ◌≤◌, List, [], ◌∷◌, length, Err, refl, sym, ap, subst, arith}
use Rattle.pptext.proofs.ErrorReturns.{stopped as halted}
use Rattle.ppunit.specs.States.{State, running, resumed, stopped}
use Rattle.ppunit.specs.code.Contexts.{context_over}
use Rattle.ppunit.specs.code.Opening.{OpenFile}
use Rattle.ppunit.specs.code.Walk.{SuspendedFile, Walks}
use Rattle.ppunit.proofs.FileWalk.{continues_on}
use Rattle.ppunit.proofs.UnitValue.{ends_quietly}
use Rattle.ppunit.proofs.FileStack.{StackSoFar, stack_start, stack_next, next_depth, stack_leaves, stack_stops, stack_refused, stack_done}
use Rattle.ppunit.proofs.RemainingWork.{work, work_next, work_leaving}
use Rattle.ppunit.proofs.preprocessor.Preprocessor.walk.Goals as goal

pub loop-file-init : goal.loop-file-init
loop-file-init g c =
    let none : c.new-suspended.result ≡ [] = c.new-suspended.ensures in
    record {
      keeps_context = record { context = refl; pass = refl; grows = λ row content known. known };
      depth = omega (arith, ap length none, c.requires.depth);
      walked =
          subst (λ (z : List SuspendedFile). StackSoFar c.args.depth (context_over c.args.self.now.context.now) c.args.self.now.pass.now.files c.args.first.row c.args.first.lines
          c.args.self.now.state z c.args.first c.args.self.now.state) (sym none)
          (stack_start c.args.depth (context_over c.args.self.now.context.now) c.args.self.now.pass.now.files c.args.self.now.state c.args.first c.requires.begins);
    }

pub returns-in_default-pop-clause-walk : goal.returns-in_default-pop-clause-walk
returns-in_default-pop-clause-walk g c =
    let none : c.loop-file.suspended ≡ [] = c.in_default-pop.ensures.0 in
    let over = subst (λ (z : OpenFile). length z.lines ≤ z.index) c.file.view_is (omega (arith, c.line_count.ensures, c.if-file-line_count.false)) in
    stack_done c.args.depth (context_over c.args.self.now.context.now) c.loop-file.self.pass.now.files c.args.first.row c.args.first.lines c.args.self.now.state c.loop-file.self.state
    c.loop-file.file
    (subst (λ (z : List SuspendedFile). StackSoFar c.args.depth (context_over c.args.self.now.context.now) c.loop-file.self.pass.now.files c.args.first.row c.args.first.lines
    c.args.self.now.state z c.loop-file.file c.loop-file.self.state) none c.loop-file.invariant.walked) over (ends_quietly c.refuse_at_end.result _ c.in_default-refuse_at_end.not-Err c.refuse_at_end.ensures)

pub loop-file-smaller : goal.loop-file-smaller
loop-file-smaller g c =
    let outer : SuspendedFile = record { file = c.outer.inside.file; file_context = c.outer.inside.file_context; resumption = c.outer.inside.resumption } in
    let there : c.loop-file.suspended ≡ outer ∷ c.pop.new.self = rw (← c.outer.view_is) at c.in-Some-pop.ensures in
    subst (λ (z : List SuspendedFile). work outer.file c.pop.new.self < work c.loop-file.file z) (sym there) (work_leaving c.loop-file.file outer c.pop.new.self)

pub loop-file-preserved : goal.loop-file-preserved
loop-file-preserved g c =
    let outer : SuspendedFile = record { file = c.outer.inside.file; file_context = c.outer.inside.file_context; resumption = c.outer.inside.resumption } in
    let there : c.loop-file.suspended ≡ outer ∷ c.pop.new.self = rw (← c.outer.view_is) at c.in-Some-pop.ensures in
    let over = subst (λ (z : OpenFile). length z.lines ≤ z.index) c.file.view_is (omega (arith, c.line_count.ensures, c.if-file-line_count.false)) in
    record {
      keeps_context = record {
        context = c.loop-file.invariant.keeps_context.context;
        pass = c.loop-file.invariant.keeps_context.pass;
        grows = c.loop-file.invariant.keeps_context.grows;
      };
      depth = omega (arith, ap length there, c.loop-file.invariant.depth);
      walked =
          subst (λ (z : State). StackSoFar c.args.depth (context_over c.args.self.now.context.now) c.loop-file.self.pass.now.files c.args.first.row c.args.first.lines
          c.args.self.now.state c.pop.new.self outer.file z) refl
          (stack_leaves c.args.depth (context_over c.args.self.now.context.now) c.loop-file.self.pass.now.files c.args.first.row c.args.first.lines c.args.self.now.state
          c.loop-file.self.state _ outer c.pop.new.self c.loop-file.file
          (subst (λ (z : List SuspendedFile). StackSoFar c.args.depth (context_over c.args.self.now.context.now) c.loop-file.self.pass.now.files c.args.first.row c.args.first.lines
          c.args.self.now.state z c.loop-file.file c.loop-file.self.state) there c.loop-file.invariant.walked) over (ends_quietly c.refuse_at_end.result _ c.in_default-refuse_at_end.not-Err c.refuse_at_end.ensures)
          (subst (λ (z : State). running c.resume.new.self ≡ resumed outer.resumption (running z)) c.restore_context.ensures c.in_ok-resume.ensures));
    }

pub loop-file-smaller-in-Some : goal.loop-file-smaller-in-Some
loop-file-smaller-in-Some g c =
    let step = rw (c.in-Ok.is, c.depth.ensures, ← c.next.view_is, c.loop-file.invariant.keeps_context.context) at c.step.ensures.step in
    let further = rw (c.in-Ok.is, ← c.next.view_is) at c.step.ensures.further in
    let within = subst (λ (z : OpenFile). z.index < length z.lines) c.file.view_is (omega (arith, c.line_count.ensures, c.if-file-line_count.true)) in
    let less = work_next c.args.depth (context_over c.args.self.now.context.now) c.step.new.self.pass.now.files c.loop-file.file.row c.loop-file.file.lines
    c.loop-file.file.index c.next.inside.index c.loop-file.self.state c.step.new.self.state c.loop-file.file c.next.inside.entered c.loop-file.suspended within
    further step in
    let moved = ap (λ (z : OpenFile). record z { index = c.next.inside.index }) c.file.view_is in
    rw (c.in_ok-file-in-Ok.ensures.file, c.in_ok-file-in-Ok.ensures.suspended, moved) (rw c.in-Some.is at less)

pub loop-file-preserved-in-Some : goal.loop-file-preserved-in-Some
loop-file-preserved-in-Some g c =
    let step = rw (c.in-Ok.is, c.depth.ensures, ← c.next.view_is, c.loop-file.invariant.keeps_context.context) at c.step.ensures.step in
    let moved = ap (λ (z : OpenFile). record z { index = c.next.inside.index }) c.file.view_is in
    record {
      keeps_context = continues_on c.args.self.now c.loop-file.self c.step.new.self c.loop-file.invariant.keeps_context c.step.ensures.keeps_context;
      depth =
          rw c.in_ok-file-in-Ok.ensures.suspended (rw c.in-Some.is at
          (next_depth c.args.depth (context_over c.args.self.now.context.now) c.step.new.self.pass.now.files c.loop-file.file.row c.loop-file.file.lines
          c.loop-file.file.index c.next.inside.index c.loop-file.self.state c.step.new.self.state c.loop-file.suspended
          c.loop-file.file c.next.inside.entered c.loop-file.invariant.depth step));
      walked =
          rw (c.in_ok-file-in-Ok.ensures.file, c.in_ok-file-in-Ok.ensures.suspended, moved) (rw c.in-Some.is at
          (stack_next c.args.depth (context_over c.args.self.now.context.now) c.loop-file.self.pass.now.files c.step.new.self.pass.now.files c.args.first.row c.args.first.lines
          c.args.self.now.state c.loop-file.self.state c.step.new.self.state c.loop-file.suspended c.loop-file.file c.next.inside.index c.next.inside.entered c.loop-file.invariant.walked
          c.step.ensures.keeps_context.grows step));
    }

pub loop-file-smaller-in_default : goal.loop-file-smaller-in_default
loop-file-smaller-in_default g c =
    let step = rw (c.in-Ok.is, c.depth.ensures, ← c.next.view_is, c.loop-file.invariant.keeps_context.context) at c.step.ensures.step in
    let further = rw (c.in-Ok.is, ← c.next.view_is) at c.step.ensures.further in
    let within = subst (λ (z : OpenFile). z.index < length z.lines) c.file.view_is (omega (arith, c.line_count.ensures, c.if-file-line_count.true)) in
    let less = work_next c.args.depth (context_over c.args.self.now.context.now) c.step.new.self.pass.now.files c.loop-file.file.row c.loop-file.file.lines
    c.loop-file.file.index c.next.inside.index c.loop-file.self.state c.step.new.self.state c.loop-file.file c.next.inside.entered c.loop-file.suspended within
    further step in
    let moved = ap (λ (z : OpenFile). record z { index = c.next.inside.index }) c.file.view_is in
    rw moved (rw c.in_default.is at less)

pub loop-file-preserved-in_default : goal.loop-file-preserved-in_default
loop-file-preserved-in_default g c =
    let step = rw (c.in-Ok.is, c.depth.ensures, ← c.next.view_is, c.loop-file.invariant.keeps_context.context) at c.step.ensures.step in
    let moved = ap (λ (z : OpenFile). record z { index = c.next.inside.index }) c.file.view_is in
    record {
      keeps_context = continues_on c.args.self.now c.loop-file.self c.step.new.self c.loop-file.invariant.keeps_context c.step.ensures.keeps_context;
      depth =
          rw c.in_default.is at
          (next_depth c.args.depth (context_over c.args.self.now.context.now) c.step.new.self.pass.now.files c.loop-file.file.row c.loop-file.file.lines
          c.loop-file.file.index c.next.inside.index c.loop-file.self.state c.step.new.self.state c.loop-file.suspended
          c.loop-file.file c.next.inside.entered c.loop-file.invariant.depth step);
      walked =
          rw moved (rw c.in_default.is at
          (stack_next c.args.depth (context_over c.args.self.now.context.now) c.loop-file.self.pass.now.files c.step.new.self.pass.now.files c.args.first.row c.args.first.lines
          c.args.self.now.state c.loop-file.self.state c.step.new.self.state c.loop-file.suspended c.loop-file.file c.next.inside.index c.next.inside.entered c.loop-file.invariant.walked
          c.step.ensures.keeps_context.grows step));
    }

pub returns-in-Err-clause-walk : goal.returns-in-Err-clause-walk
returns-in-Err-clause-walk g c =
    let step = rw (c.in-Err.is, c.depth.ensures, c.loop-file.invariant.keeps_context.context) at c.step.ensures.step in
    halted (Err c.in-Err.error) c.in-Err.error _ _ refl step (λ fault steps.
    subst (λ (z : State). Walks (context_over c.args.self.now.context.now) c.step.new.self.pass.now.files c.args.depth c.args.first.row c.args.first.lines c.args.self.now.state
    (stopped z fault)) (sym c.unwind.ensures)
    (stack_stops c.args.depth (context_over c.args.self.now.context.now) c.loop-file.self.pass.now.files c.step.new.self.pass.now.files c.args.first.row c.args.first.lines
    c.args.self.now.state c.loop-file.self.state c.step.new.self.state fault c.loop-file.suspended c.loop-file.file c.loop-file.invariant.walked
    c.step.ensures.keeps_context.grows steps))

pub returns-in-Err-refuse_at_end-clause-walk : goal.returns-in-Err-refuse_at_end-clause-walk
returns-in-Err-refuse_at_end-clause-walk g c =
    let over = subst (λ (z : OpenFile). length z.lines ≤ z.index) c.file.view_is (omega (arith, c.line_count.ensures, c.if-file-line_count.false)) in
    let waits = rw c.in-Err-refuse_at_end.is at c.refuse_at_end.ensures in
    halted (Err c.in-Err-refuse_at_end.error) c.in-Err-refuse_at_end.error _ _ refl waits (λ fault waits.
    subst (λ (z : State). Walks (context_over c.args.self.now.context.now) c.loop-file.self.pass.now.files c.args.depth c.args.first.row c.args.first.lines c.args.self.now.state
    (stopped z fault)) (sym c.unwind-in-Err-refuse_at_end.ensures)
    (stack_refused c.args.depth (context_over c.args.self.now.context.now) c.loop-file.self.pass.now.files c.args.first.row c.args.first.lines
    c.args.self.now.state c.loop-file.self.state fault c.loop-file.suspended c.loop-file.file c.loop-file.invariant.walked over waits))

pub returns-in-Err-refuse_at_end-clause-keeps_context : goal.returns-in-Err-refuse_at_end-clause-keeps_context
returns-in-Err-refuse_at_end-clause-keeps_context g c = record {
  context = c.loop-file.invariant.keeps_context.context;
  pass = c.loop-file.invariant.keeps_context.pass;
  grows = c.loop-file.invariant.keeps_context.grows;
}

pub depth-requires : goal.depth-requires
depth-requires g c = omega (arith, c.loop-file.invariant.depth)

pub step-requires-clause-depth : goal.step-requires-clause-depth
step-requires-clause-depth g c = omega (arith, c.depth.ensures, c.loop-file.invariant.depth)

pub step-requires-clause-index : goal.step-requires-clause-index
step-requires-clause-index g c = subst (λ (z : OpenFile). z.index < length z.lines) c.file.view_is (omega (arith, c.line_count.ensures, c.if-file-line_count.true))

pub returns-in-Err-clause-keeps_context : goal.returns-in-Err-clause-keeps_context
returns-in-Err-clause-keeps_context g c =
    let k = continues_on c.args.self.now c.loop-file.self c.step.new.self c.loop-file.invariant.keeps_context c.step.ensures.keeps_context in
    record { context = k.context; pass = k.pass; grows = k.grows }

pub returns-in_err-file-in-Ok-clause-keeps_context : goal.returns-in_err-file-in-Ok-clause-keeps_context
returns-in_err-file-in-Ok-clause-keeps_context g c = continues_on c.args.self.now c.loop-file.self c.step.new.self c.loop-file.invariant.keeps_context c.step.ensures.keeps_context

pub returns-in_default-pop-clause-keeps_context : goal.returns-in_default-pop-clause-keeps_context
returns-in_default-pop-clause-keeps_context g c = c.loop-file.invariant.keeps_context
