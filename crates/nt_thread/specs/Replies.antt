-- What the answers of a thread say as replies.
use Rattle.nt_event.specs.declared.commands.Reply.{Reply}
use Rattle.nt_event.specs.declared.commands.Reply.TheVariants.{Blocked, Status}
use Rattle.nt_thread.specs.declared.answers.WaitAnswer.{WaitAnswer}
use Rattle.nt_thread.specs.declared.answers.WaitAnswer.TheVariants.{Blocked as BlockedAnswer, Now}

abbrev pub reply_of : WaitAnswer → Reply
reply_of (Now st) = Status st
reply_of BlockedAnswer = Blocked
