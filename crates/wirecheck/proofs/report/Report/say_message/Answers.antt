use Rattle.wirecheck.proofs.report.Report.say_message.Goals as goal

pub returns : goal.returns
returns c = cc c.words.ensures
