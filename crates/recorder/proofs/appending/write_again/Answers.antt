-- The block that is found is the one that the rules free, and the command is served after that.
use Rattle.std.proofs.Common.{◌≡◌, ◌∙◌, ap}
use Rattle.model.specs.declared.command.Command.TheVariants.{Free}
use Rattle.recorder.specs.Samples.{freeing}
use Rattle.recorder.specs.declared.choice.Oldest.{Oldest}
use Rattle.recorder.proofs.OldestClosed.{frees}
use Rattle.tables.specs.Serving.{answering}
use Rattle.recorder.proofs.appending.write_again.Goals as goal

pub returns : goal.returns
returns c =
    let t = c.args.table.now in
    let d = c.args.domain in
    let freed = c.serve_words-freed in
    let found = c.oldest_closed-found.ensures in
    let command : c.freeing_command-free.result ≡ freeing t d =
    c.freeing_command-free.ensures ∙ ap (λ (f : Oldest). Free d f.number) found.found
    ∙ frees t d c.records_of-records.result found.narrow c.show_shape.ensures.blocks c.records_of-records.ensures in
    record {
      between = answering freed.new.table freed.result;
      store₁ = freed.new.store;
      words₁ = freed.new.words;
      frees = rw command at freed.ensures;
      writes = c.serve_words.ensures;
    }
