-- What start hands back, in the rules' terms.
use Rattle.model.specs.Answers.{outcome_of}
use Rattle.rules.specs.Start as rules
use Rattle.tables.specs.declared.served.Served.{Served}

abbrev pub begun : Served → rules.Started
begun r = record { answer = outcome_of r.answer; table = r.table }
