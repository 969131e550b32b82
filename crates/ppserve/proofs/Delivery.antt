-- What a run delivers, from its printing to the streams of `serve`.
use Rattle.std.proofs.Common.{◌≡◌, ℕ, Bool, true, List, [], Option, Result, Err, IfOk, refl, inr}
use Rattle.ppshelf.specs.Files.{Files}
use Rattle.pppool.proofs.SlotFilling.{if_ok_then}
use Rattle.ppserve.specs.CompilationList.{CompilationList}
use Rattle.ppserve.specs.declared.output.Mode.{Mode}
use Rattle.ppserve.specs.declared.serving.RunFault.{RunFault}
use Rattle.ppserve.specs.declared.serving.RunFault.TheVariants.{Write as WriteFailed}
use Rattle.ppserve.specs.Serving.{Stream, ReadsList, IsOutput, Serves}
use Rattle.ppserve.specs.code.Printing.{Puts}
use Rattle.ppserve.specs.code.Runs.{Delivers}
use Rattle.ppserve.proofs.BufferedPrinting.{printed_front}

module _ {V : Type 0} {written : V → Option (List ℕ)} {has_failed : V → Bool} {old new : V} {result : Result Bool RunFault} where
  -- Who delivers an output of which P holds delivers one of which Q holds, if P implies Q.
  pub delivers_as : {P Q : Bool → List ℕ → Type 0}
      → ((any : Bool) (text : List ℕ) → P any text → Q any text)
      → Delivers written has_failed P old new result
      → Delivers written has_failed Q old new result
  delivers_as more d = record {
    ok = if_ok_then result d.ok (λ any w. record { text = w.text; is_so = more any w.text w.is_so; appends = w.appends });
    kinds = d.kinds;
    write = d.write;
    prefix = λ failed.
        let w = d.prefix failed in
        record { any = w.any; text = w.text; is_so = more w.any w.text w.is_so; count = w.count; appends = w.appends };
    untouched = d.untouched;
  }

  -- A list that was read, and whose output was delivered, was served.
  pub serves_of : (inline : Bool) (Allowed : CompilationList → Files → Type 0) (mode : Mode) (list : CompilationList) (input : Stream)
      → ReadsList inline input list
      → Delivers written has_failed (IsOutput Allowed mode list) old new result
      → IfOk result (λ any. Serves inline Allowed mode input (record { before = written old; after = written new }) any)
  serves_of inline Allowed mode list input reads d =
      if_ok_then result d.ok (λ any w. record { list = list; reads = reads; text = w.text; is_output = w.is_so; appends = w.appends })

-- If a write failed, a prefix was written.
pub prefix_written : {V : Type 0} {written : V → Option (List ℕ)} {has_failed : V → Bool} {P : Bool → List ℕ → Type 0} {old new : V} (any : Bool) (text : List ℕ)
    → has_failed new ≡ true
    → Puts written has_failed old new [] [] text
    → P any text
    → Delivers written has_failed P old new (Err WriteFailed)
prefix_written any text failed puts is =
    let front = printed_front refl puts in
    record {
      ok = tt;
      kinds = inr refl;
      write = λ _. failed;
      prefix = λ _. record { any = any; text = text; is_so = is; count = front.0; appends = front.1 };
      untouched = λ other. absurd (other refl);
    }
