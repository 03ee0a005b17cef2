use Rattle.std.proofs.Common.{Some, [], take, refl, sym, ap, ◌∙◌, subst, arith}
use Rattle.std.specs.Prelude.{All}
use Rattle.house_top.specs.declared.form.Form.TheVariants as form
use Rattle.house_top.specs.Answer.{status_of_answer}
use Rattle.house_top.specs.Words.{names_in, texts}
use Rattle.house_top.proofs.AskLemmas.{first_ready, join_names, named, named_one, names_of_three, names_of_two, one_ready, ready_join, ready_name, ready_names, ready_reserve, reserve_strings, second_ready, three_strings, two_strings, unstored_document}
use Rattle.house_top.proofs.FormLemmas.{form_answers, form_caused, form_files, form_reads, input_caused, input_reads, input_result, kept, named_answers, named_caused, named_files, named_reads}
use Rattle.house_top.proofs.JoinedLemmas.{joined_answers, joined_caused, joined_reads, kept_names}
use Rattle.house_top.proofs.JudgedLemmas.{judged_answers, judged_caused, judged_reads}
use Rattle.house_top.proofs.SlipLemmas.{slip_answers, slip_caused, slip_reads}
use Rattle.house_top.proofs.forms.answer_to.Goals as goal

pub index-requires : goal.index-requires
index-requires g c =
    let three = three_strings c.args.words.now.items (c.requires.form ∙ ap Some c.in-Opened.is) in
    omega (arith, three, c.args.words.now.ok.0)

pub index-requires-in-Opened : goal.index-requires-in-Opened
index-requires-in-Opened g c =
    let three = three_strings c.args.words.now.items (c.requires.form ∙ ap Some c.in-Opened.is) in
    omega (arith, three, c.args.words.now.ok.0)

pub run_opened-requires-clause-call : goal.run_opened-requires-clause-call
run_opened-requires-clause-call g c =
    let names = names_in (texts c.args.words.now.items) in
    let left = g.I.Source.left c.args.input.now in
    let files = g.F.Files.contents c.args.files.now in
    let three = three_strings c.args.words.now.items (c.requires.form ∙ ap Some c.in-Opened.is) in
    let are = names_of_three c.args.words.now.items c.index.result.now c.index-in-Opened.result.now three c.index.ensures c.index-in-Opened.ensures ∙ named c.as_str.ensures.value c.as_str-in-Opened.ensures.value in
    first_ready (g.F.Files.ready c.args.files.now) c.as_str.result.now c.as_str-in-Opened.result.now names are (ready_names (g.F.Files.ready c.args.files.now) c.args.form names c.in-Opened.is c.requires.ready)

pub run_opened-requires-clause-register : goal.run_opened-requires-clause-register
run_opened-requires-clause-register g c =
    let names = names_in (texts c.args.words.now.items) in
    let left = g.I.Source.left c.args.input.now in
    let files = g.F.Files.contents c.args.files.now in
    let three = three_strings c.args.words.now.items (c.requires.form ∙ ap Some c.in-Opened.is) in
    let are = names_of_three c.args.words.now.items c.index.result.now c.index-in-Opened.result.now three c.index.ensures c.index-in-Opened.ensures ∙ named c.as_str.ensures.value c.as_str-in-Opened.ensures.value in
    second_ready (g.F.Files.ready c.args.files.now) c.as_str.result.now c.as_str-in-Opened.result.now names are (ready_names (g.F.Files.ready c.args.files.now) c.args.form names c.in-Opened.is c.requires.ready)

pub returns-in-Input-clause-answer : goal.returns-in-Input-clause-answer
returns-in-Input-clause-answer g c =
    let names = names_in (texts c.args.words.now.items) in
    let left = g.I.Source.left c.args.input.now in
    let files = g.F.Files.contents c.args.files.now in
    form_answers c.args.form (form.Input c.in-Input.goal) c.run_input.result names left files c.in-Input.is (input_result c.run_input.result c.in-Input.goal names left files c.run_input.ensures.answer)

pub returns-in-Input-clause-caused : goal.returns-in-Input-clause-caused
returns-in-Input-clause-caused g c =
    let names = names_in (texts c.args.words.now.items) in
    let left = g.I.Source.left c.args.input.now in
    let files = g.F.Files.contents c.args.files.now in
    form_caused c.args.form (form.Input c.in-Input.goal) (status_of_answer c.run_input.result) names left files _ _ c.in-Input.is (input_caused c.run_input.result c.in-Input.goal _ left _ _ c.run_input.ensures.answer c.run_input.ensures.failed)

pub returns-in-Input-clause-reads : goal.returns-in-Input-clause-reads
returns-in-Input-clause-reads g c =
    let names = names_in (texts c.args.words.now.items) in
    let left = g.I.Source.left c.args.input.now in
    let files = g.F.Files.contents c.args.files.now in
    form_reads g.I.Source.left c.args.form (form.Input c.in-Input.goal) (status_of_answer c.run_input.result) names left files _ c.args.input.now c.run_input.new.input c.in-Input.is
    (input_reads g.I.Source.left c.run_input.result c.in-Input.goal names files _ c.args.input.now c.run_input.new.input c.run_input.ensures.answer c.run_input.ensures.reads)

pub returns-in-Input-clause-files : goal.returns-in-Input-clause-files
returns-in-Input-clause-files g c =
    let names = names_in (texts c.args.words.now.items) in
    let left = g.I.Source.left c.args.input.now in
    let files = g.F.Files.contents c.args.files.now in
    form_files g.F.Files.contents c.args.form (form.Input c.in-Input.goal) names c.args.files.now c.args.files.now c.in-Input.is (record { files_unchanged = refl; shelf_unchanged = λ none. refl })

pub returns-in-Slip-clause-answer : goal.returns-in-Slip-clause-answer
returns-in-Slip-clause-answer g c =
    let names = names_in (texts c.args.words.now.items) in
    let left = g.I.Source.left c.args.input.now in
    let files = g.F.Files.contents c.args.files.now in
    form_answers c.args.form (form.Slip c.in-Slip.name) c.slip_input.result names left files c.in-Slip.is (slip_answers c.slip_input.result c.in-Slip.name names left files c.slip_input.ensures.answer)

pub returns-in-Slip-clause-caused : goal.returns-in-Slip-clause-caused
returns-in-Slip-clause-caused g c =
    let names = names_in (texts c.args.words.now.items) in
    let left = g.I.Source.left c.args.input.now in
    let files = g.F.Files.contents c.args.files.now in
    form_caused c.args.form (form.Slip c.in-Slip.name) (status_of_answer c.slip_input.result) names left files _ _ c.in-Slip.is
    (slip_caused c.slip_input.result c.in-Slip.name _ left _ _ c.slip_input.ensures.answer c.slip_input.ensures.failed)

pub returns-in-Slip-clause-reads : goal.returns-in-Slip-clause-reads
returns-in-Slip-clause-reads g c =
    let names = names_in (texts c.args.words.now.items) in
    let left = g.I.Source.left c.args.input.now in
    let files = g.F.Files.contents c.args.files.now in
    form_reads g.I.Source.left c.args.form (form.Slip c.in-Slip.name) (status_of_answer c.slip_input.result) names left files _ c.args.input.now c.slip_input.new.input c.in-Slip.is
    (slip_reads g.I.Source.left c.slip_input.result c.in-Slip.name names files _ c.args.input.now c.slip_input.new.input c.slip_input.ensures.answer c.slip_input.ensures.reads)

pub returns-in-Slip-clause-files : goal.returns-in-Slip-clause-files
returns-in-Slip-clause-files g c =
    let names = names_in (texts c.args.words.now.items) in
    form_files g.F.Files.contents c.args.form (form.Slip c.in-Slip.name) names c.args.files.now c.args.files.now c.in-Slip.is (record { files_unchanged = refl; shelf_unchanged = λ none. refl })

pub returns-in-Opened-clause-answer : goal.returns-in-Opened-clause-answer
returns-in-Opened-clause-answer g c =
    let names = names_in (texts c.args.words.now.items) in
    let left = g.I.Source.left c.args.input.now in
    let files = g.F.Files.contents c.args.files.now in
    let three = three_strings c.args.words.now.items (c.requires.form ∙ ap Some c.in-Opened.is) in
    let are = names_of_three c.args.words.now.items c.index.result.now c.index-in-Opened.result.now three c.index.ensures c.index-in-Opened.ensures ∙ named c.as_str.ensures.value c.as_str-in-Opened.ensures.value in
    form_answers c.args.form form.Opened c.run_opened.result names left files c.in-Opened.is (named_answers form.Opened c.run_opened.result names _ left files are c.run_opened.ensures.answer)

pub returns-in-Opened-clause-caused : goal.returns-in-Opened-clause-caused
returns-in-Opened-clause-caused g c =
    let names = names_in (texts c.args.words.now.items) in
    let left = g.I.Source.left c.args.input.now in
    let files = g.F.Files.contents c.args.files.now in
    let three = three_strings c.args.words.now.items (c.requires.form ∙ ap Some c.in-Opened.is) in
    let are = names_of_three c.args.words.now.items c.index.result.now c.index-in-Opened.result.now three c.index.ensures c.index-in-Opened.ensures ∙ named c.as_str.ensures.value c.as_str-in-Opened.ensures.value in
    form_caused c.args.form form.Opened (status_of_answer c.run_opened.result) names left files _ _ c.in-Opened.is (named_caused form.Opened (status_of_answer c.run_opened.result) names _ left files _ _ are c.run_opened.ensures.caused)

pub returns-in-Opened-clause-reads : goal.returns-in-Opened-clause-reads
returns-in-Opened-clause-reads g c =
    let names = names_in (texts c.args.words.now.items) in
    let left = g.I.Source.left c.args.input.now in
    let files = g.F.Files.contents c.args.files.now in
    let three = three_strings c.args.words.now.items (c.requires.form ∙ ap Some c.in-Opened.is) in
    let are = names_of_three c.args.words.now.items c.index.result.now c.index-in-Opened.result.now three c.index.ensures c.index-in-Opened.ensures ∙ named c.as_str.ensures.value c.as_str-in-Opened.ensures.value in
    form_reads g.I.Source.left c.args.form form.Opened (status_of_answer c.run_opened.result) names left files _ c.args.input.now c.run_opened.new.input c.in-Opened.is
    (named_reads g.I.Source.left form.Opened (status_of_answer c.run_opened.result) names _ left files _ c.args.input.now c.run_opened.new.input are c.run_opened.ensures.reads)

pub returns-in-Opened-clause-files : goal.returns-in-Opened-clause-files
returns-in-Opened-clause-files g c =
    let names = names_in (texts c.args.words.now.items) in
    let left = g.I.Source.left c.args.input.now in
    let files = g.F.Files.contents c.args.files.now in
    let three = three_strings c.args.words.now.items (c.requires.form ∙ ap Some c.in-Opened.is) in
    let are = names_of_three c.args.words.now.items c.index.result.now c.index-in-Opened.result.now three c.index.ensures c.index-in-Opened.ensures ∙ named c.as_str.ensures.value c.as_str-in-Opened.ensures.value in
    form_files g.F.Files.contents c.args.form form.Opened names c.args.files.now c.run_opened.new.files c.in-Opened.is (named_files g.F.Files.contents names _ c.args.files.now c.run_opened.new.files are c.run_opened.ensures.files)

pub index-requires-in-Judged : goal.index-requires-in-Judged
index-requires-in-Judged g c =
    let two = two_strings c.args.words.now.items c.in-Judged.document (unstored_document c.args.form c.in-Judged.document c.in-Judged.is c.requires.reads) (c.requires.form ∙ ap Some c.in-Judged.is) in
    omega (arith, two, c.args.words.now.ok.0)

pub judge_alone-requires : goal.judge_alone-requires
judge_alone-requires g c =
    let names = names_in (texts c.args.words.now.items) in
    let two = two_strings c.args.words.now.items c.in-Judged.document (unstored_document c.args.form c.in-Judged.document c.in-Judged.is c.requires.reads) (c.requires.form ∙ ap Some c.in-Judged.is) in
    let are = names_of_two c.args.words.now.items c.index-in-Judged.result.now two c.index-in-Judged.ensures ∙ named_one c.as_str-in-Judged.ensures.value in
    one_ready (g.F.Files.ready c.args.files.now) c.as_str-in-Judged.result.now names [] are (ready_name (g.F.Files.ready c.args.files.now) c.args.form c.in-Judged.document names c.in-Judged.is c.requires.ready)

pub returns-in-Judged-clause-answer : goal.returns-in-Judged-clause-answer
returns-in-Judged-clause-answer g c =
    let names = names_in (texts c.args.words.now.items) in
    let left = g.I.Source.left c.args.input.now in
    let files = g.F.Files.contents c.args.files.now in
    let document = c.in-Judged.document in
    let two = two_strings c.args.words.now.items document (unstored_document c.args.form document c.in-Judged.is c.requires.reads) (c.requires.form ∙ ap Some c.in-Judged.is) in
    let are = names_of_two c.args.words.now.items c.index-in-Judged.result.now two c.index-in-Judged.ensures ∙ named_one c.as_str-in-Judged.ensures.value in
    form_answers c.args.form (form.Judged document) c.judge_alone.result names left files c.in-Judged.is
    (named_answers (form.Judged document) c.judge_alone.result names _ left files are (judged_answers c.judge_alone.result document _ [] left files c.judge_alone.ensures.said))

pub returns-in-Judged-clause-caused : goal.returns-in-Judged-clause-caused
returns-in-Judged-clause-caused g c =
    let names = names_in (texts c.args.words.now.items) in
    let left = g.I.Source.left c.args.input.now in
    let files = g.F.Files.contents c.args.files.now in
    let document = c.in-Judged.document in
    let two = two_strings c.args.words.now.items document (unstored_document c.args.form document c.in-Judged.is c.requires.reads) (c.requires.form ∙ ap Some c.in-Judged.is) in
    let are = names_of_two c.args.words.now.items c.index-in-Judged.result.now two c.index-in-Judged.ensures ∙ named_one c.as_str-in-Judged.ensures.value in
    form_caused c.args.form (form.Judged document) (status_of_answer c.judge_alone.result) names left files _ _ c.in-Judged.is
    (named_caused (form.Judged document) (status_of_answer c.judge_alone.result) names _ left files _ _ are
    (judged_caused c.judge_alone.result document _ [] left files _ _ c.judge_alone.ensures.said c.judge_alone.ensures.too_long c.judge_alone.ensures.failed))

pub returns-in-Judged-clause-reads : goal.returns-in-Judged-clause-reads
returns-in-Judged-clause-reads g c =
    let names = names_in (texts c.args.words.now.items) in
    let left = g.I.Source.left c.args.input.now in
    let files = g.F.Files.contents c.args.files.now in
    let document = c.in-Judged.document in
    let two = two_strings c.args.words.now.items document (unstored_document c.args.form document c.in-Judged.is c.requires.reads) (c.requires.form ∙ ap Some c.in-Judged.is) in
    let are = names_of_two c.args.words.now.items c.index-in-Judged.result.now two c.index-in-Judged.ensures ∙ named_one c.as_str-in-Judged.ensures.value in
    form_reads g.I.Source.left c.args.form (form.Judged document) (status_of_answer c.judge_alone.result) names left files _ c.args.input.now c.args.input.now c.in-Judged.is
    (named_reads g.I.Source.left (form.Judged document) (status_of_answer c.judge_alone.result) names _ left files _ c.args.input.now c.args.input.now are
    (judged_reads g.I.Source.left c.judge_alone.result document _ [] files _ c.args.input.now c.judge_alone.ensures.said c.judge_alone.ensures.failed))

pub returns-in-Judged-clause-files : goal.returns-in-Judged-clause-files
returns-in-Judged-clause-files g c =
    let names = names_in (texts c.args.words.now.items) in
    let document = c.in-Judged.document in
    let two = two_strings c.args.words.now.items document (unstored_document c.args.form document c.in-Judged.is c.requires.reads) (c.requires.form ∙ ap Some c.in-Judged.is) in
    let are = names_of_two c.args.words.now.items c.index-in-Judged.result.now two c.index-in-Judged.ensures ∙ named_one c.as_str-in-Judged.ensures.value in
    form_files g.F.Files.contents c.args.form (form.Judged document) names c.args.files.now c.judge_alone.new.files c.in-Judged.is
    (named_files g.F.Files.contents (take 1 names) _ c.args.files.now c.judge_alone.new.files (ap (take 1) are) (kept g.F.Files.contents _ [] c.args.files.now c.judge_alone.new.files c.judge_alone.ensures.unchanged))

pub join_files-requires : goal.join_files-requires
join_files-requires g c =
    let names = names_in (texts c.args.words.now.items) in
    subst (All (g.F.Files.ready c.args.files.now)) (sym c.names_in.ensures) (ready_join (g.F.Files.ready c.args.files.now) c.args.form names c.in-Join.is c.requires.ready)

pub returns-in-Join-clause-answer : goal.returns-in-Join-clause-answer
returns-in-Join-clause-answer g c =
    let names = names_in (texts c.args.words.now.items) in
    let left = g.I.Source.left c.args.input.now in
    let files = g.F.Files.contents c.args.files.now in
    form_answers c.args.form form.Join c.join_files.result names left files c.in-Join.is
    (named_answers form.Join c.join_files.result names _ left files (sym c.names_in.ensures) (joined_answers c.join_files.result _ left files c.join_files.ensures.said))

pub returns-in-Join-clause-caused : goal.returns-in-Join-clause-caused
returns-in-Join-clause-caused g c =
    let names = names_in (texts c.args.words.now.items) in
    let left = g.I.Source.left c.args.input.now in
    let files = g.F.Files.contents c.args.files.now in
    form_caused c.args.form form.Join (status_of_answer c.join_files.result) names left files _ _ c.in-Join.is
    (named_caused form.Join (status_of_answer c.join_files.result) names _ left files _ _ (sym c.names_in.ensures)
    (joined_caused c.join_files.result _ left files _ _ c.join_files.ensures.said c.join_files.ensures.too_long c.join_files.ensures.failed))

pub returns-in-Join-clause-reads : goal.returns-in-Join-clause-reads
returns-in-Join-clause-reads g c =
    let names = names_in (texts c.args.words.now.items) in
    let left = g.I.Source.left c.args.input.now in
    let files = g.F.Files.contents c.args.files.now in
    form_reads g.I.Source.left c.args.form form.Join (status_of_answer c.join_files.result) names left files _ c.args.input.now c.args.input.now c.in-Join.is
    (named_reads g.I.Source.left form.Join (status_of_answer c.join_files.result) names _ left files _ c.args.input.now c.args.input.now (sym c.names_in.ensures)
    (joined_reads g.I.Source.left c.join_files.result _ files _ c.args.input.now c.join_files.ensures.said c.join_files.ensures.failed))

pub returns-in-Join-clause-files : goal.returns-in-Join-clause-files
returns-in-Join-clause-files g c =
    let names = names_in (texts c.args.words.now.items) in
    form_files g.F.Files.contents c.args.form form.Join names c.args.files.now c.join_files.new.files c.in-Join.is
    (kept_names g.F.Files.contents names c.args.files.now c.join_files.new.files (join_names (texts c.args.words.now.items) (c.requires.form ∙ ap Some c.in-Join.is)) c.join_files.ensures.unchanged)

pub index-requires-in-Reserve : goal.index-requires-in-Reserve
index-requires-in-Reserve g c =
    let two = reserve_strings c.args.words.now.items (c.requires.form ∙ ap Some c.in-Reserve.is) in
    omega (arith, two, c.args.words.now.ok.0)

pub reserve_seats-requires : goal.reserve_seats-requires
reserve_seats-requires g c =
    let names = names_in (texts c.args.words.now.items) in
    let two = reserve_strings c.args.words.now.items (c.requires.form ∙ ap Some c.in-Reserve.is) in
    let are = names_of_two c.args.words.now.items c.index-in-Reserve.result.now two c.index-in-Reserve.ensures ∙ named_one c.as_str-in-Reserve.ensures.value in
    ready_reserve (g.F.Files.ready c.args.files.now) c.args.form c.as_str-in-Reserve.result.now names c.in-Reserve.is are c.requires.ready

pub returns-in-Reserve-clause-answer : goal.returns-in-Reserve-clause-answer
returns-in-Reserve-clause-answer g c =
    let names = names_in (texts c.args.words.now.items) in
    let left = g.I.Source.left c.args.input.now in
    let files = g.F.Files.contents c.args.files.now in
    let two = reserve_strings c.args.words.now.items (c.requires.form ∙ ap Some c.in-Reserve.is) in
    let are = names_of_two c.args.words.now.items c.index-in-Reserve.result.now two c.index-in-Reserve.ensures ∙ named_one c.as_str-in-Reserve.ensures.value in
    form_answers c.args.form form.Reserve c.reserve_seats.result names left files c.in-Reserve.is (named_answers form.Reserve c.reserve_seats.result names _ left files are c.reserve_seats.ensures.answer)

pub returns-in-Reserve-clause-caused : goal.returns-in-Reserve-clause-caused
returns-in-Reserve-clause-caused g c =
    let names = names_in (texts c.args.words.now.items) in
    let left = g.I.Source.left c.args.input.now in
    let files = g.F.Files.contents c.args.files.now in
    let two = reserve_strings c.args.words.now.items (c.requires.form ∙ ap Some c.in-Reserve.is) in
    let are = names_of_two c.args.words.now.items c.index-in-Reserve.result.now two c.index-in-Reserve.ensures ∙ named_one c.as_str-in-Reserve.ensures.value in
    form_caused c.args.form form.Reserve (status_of_answer c.reserve_seats.result) names left files _ _ c.in-Reserve.is (named_caused form.Reserve (status_of_answer c.reserve_seats.result) names _ left files _ _ are c.reserve_seats.ensures.caused)

pub returns-in-Reserve-clause-reads : goal.returns-in-Reserve-clause-reads
returns-in-Reserve-clause-reads g c =
    let names = names_in (texts c.args.words.now.items) in
    let left = g.I.Source.left c.args.input.now in
    let files = g.F.Files.contents c.args.files.now in
    let two = reserve_strings c.args.words.now.items (c.requires.form ∙ ap Some c.in-Reserve.is) in
    let are = names_of_two c.args.words.now.items c.index-in-Reserve.result.now two c.index-in-Reserve.ensures ∙ named_one c.as_str-in-Reserve.ensures.value in
    form_reads g.I.Source.left c.args.form form.Reserve (status_of_answer c.reserve_seats.result) names left files _ c.args.input.now c.reserve_seats.new.input c.in-Reserve.is
    (named_reads g.I.Source.left form.Reserve (status_of_answer c.reserve_seats.result) names _ left files _ c.args.input.now c.reserve_seats.new.input are c.reserve_seats.ensures.reads)

pub returns-in-Reserve-clause-files : goal.returns-in-Reserve-clause-files
returns-in-Reserve-clause-files g c =
    let names = names_in (texts c.args.words.now.items) in
    let two = reserve_strings c.args.words.now.items (c.requires.form ∙ ap Some c.in-Reserve.is) in
    let are = names_of_two c.args.words.now.items c.index-in-Reserve.result.now two c.index-in-Reserve.ensures ∙ named_one c.as_str-in-Reserve.ensures.value in
    form_files g.F.Files.contents c.args.form form.Reserve names c.args.files.now c.reserve_seats.new.files c.in-Reserve.is (named_files g.F.Files.contents names _ c.args.files.now c.reserve_seats.new.files are c.reserve_seats.ensures.files)
