use Rattle.std.proofs.Common.{◌≡◌, ap, ◌∙◌, string_bytes}
use Rattle.std.proofs.lemmas.Result.{IfOk-at_ok}
use Rattle.std.specs.FinMap.{insert}
use Rattle.house_io.specs.FileMap.{contents_of}
use Rattle.house_io.proofs.Contents.{contents_of-insert}
use Rattle.house_io.proofs.file_map.FileMap.put.Goals as goal

-- the key has the bytes of the name, so `insert` set the file of that name
pub returns-clause-stored : goal.returns-clause-stored
returns-clause-stored c =
    let inside = c.self.inside in
    let key_is_name = IfOk-at_ok (λ s. string_bytes s ≡ c.args.name.now) c.in_ok-name.was c.from_str.ensures.ok in
    let set = contents_of-insert inside.files c.insert.new.self c.in_ok-name.name c.args.bytes c.in_ok-insert.ensures.updates in
    let file_is_set : contents_of c.insert.new.self ≡ insert (contents_of inside.files) c.args.name.now c.args.bytes.items = rw key_is_name at set in
    file_is_set ∙ ap (λ files. insert files c.args.name.now c.args.bytes.items) c.self.view_is
