use Rattle.std.proofs.Common.{ap, ◌∙◌, get_or, length}
use Rattle.trial_file.proofs.NameLemmas.{name-at}
use Rattle.trial_file.proofs.names.name_at.Goals as goal

pub returns : goal.returns
returns c =
    let name = c.index-names-index.result in
    c.index-names-index.is
    ∙ ap (λ ns. get_or ns c.args.index name) c.requires.are
    ∙ name-at (length c.args.names.now) c.args.index name c.requires.within
