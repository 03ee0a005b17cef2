use Rattle.house_model.proofs.NamingLemmas.{HasNamesOf-registered_setting}
use Rattle.cluster_draw.proofs.laws.setting_has_names.Goals as goal

pub returns : goal.returns
returns c = HasNamesOf-registered_setting
