-- What is written is within its buffer.
use native.Mathlib.Omega.{arith}
use Rattle.session.proofs.Feeding.{wrote_within}
use Rattle.vectors.proofs.answer_question.Goals as goal

pub returns-in-Queue : goal.returns-in-Queue
returns-in-Queue c = omega (arith, wrote_within c.tell_queue.ensures, c.tell_queue.auto.out)

pub returns-in-Lamp : goal.returns-in-Lamp
returns-in-Lamp c = omega (arith, wrote_within c.tell_lamp.ensures, c.tell_lamp.auto.out)

pub returns-in-Look : goal.returns-in-Look
returns-in-Look c = omega (arith, wrote_within c.tell_look.ensures, c.tell_look.auto.out)
