use Rattle.std.proofs.Common.{refl, sym, ◌∙◌}
use Rattle.house_base.proofs.Names.{length-is_name, length-take_front, IsPadded-written}
use Rattle.house_base.proofs.name.Name.read.Goals as goal

pub slice_bounds-bytes-end : goal.slice_bounds-bytes-end
slice_bounds-bytes-end c = length-is_name _ (sym c.is_name.ensures ∙ c.if-not-is_name.false)

pub slice_bounds-copy_from_slice-end : goal.slice_bounds-copy_from_slice-end
slice_bounds-copy_from_slice-end c = sym (length-take_front _ _ _ refl (length-is_name _ (sym c.is_name.ensures ∙ c.if-not-is_name.false)))

pub copy_from_slice-requires : goal.copy_from_slice-requires
copy_from_slice-requires c = length-take_front _ _ _ refl (length-is_name _ (sym c.is_name.ensures ∙ c.if-not-is_name.false))

pub invariant_of-result : goal.invariant_of-result
invariant_of-result c =
    rw c.copy_from_slice.ensures.after (IsPadded-written _ _ _ _ refl (length-is_name _ (sym c.is_name.ensures ∙ c.if-not-is_name.false)) (sym c.is_name.ensures ∙ c.if-not-is_name.false))
