use Rattle.std.proofs.Common.{arith}
use Rattle.std.proofs.lemmas.Grind.{common_steps}
use Rattle.house_io.proofs.Contents.{get-contents_of}
use Rattle.house_io.proofs.file_map.FileMap.content.Goals as goal

pub returns-in_err-bytes : goal.returns-in_err-bytes
returns-in_err-bytes c = grind (arith, common_steps, get-contents_of c.self.inside.files c.args.name.now)

pub returns : goal.returns
returns c = grind (arith, common_steps, get-contents_of c.self.inside.files c.args.name.now)
