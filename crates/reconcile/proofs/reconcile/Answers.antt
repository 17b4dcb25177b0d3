use Rattle.std.proofs.Common.{arith}
use Rattle.std.proofs.lemmas.Grind.{common_steps}
use Rattle.reconcile.specs.Texts.{bank_of, book_of}
use Rattle.reconcile.proofs.Zeroing.{written}
use Rattle.reconcile.proofs.reconcile.Goals as goal

pub returns-in_err-run-clause-output : goal.returns-in_err-run-clause-output
unfolding bank_of book_of
returns-in_err-run-clause-output c = written _ _ _ _ _ _ _ _ (grind (arith, common_steps)) (grind (arith, common_steps)) c.in_err-run.ensures.output

pub returns-clause-output : goal.returns-clause-output
unfolding bank_of book_of
returns-clause-output c = written _ _ _ _ _ _ _ _ (grind (arith, common_steps)) (grind (arith, common_steps)) c.in_ok-run.ensures.output
