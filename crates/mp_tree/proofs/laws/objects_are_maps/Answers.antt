use Rattle.mp_tree.proofs.Maps.Laws.{equal_maps, removes_one_name, same_names, sets_one_name}
use Rattle.mp_tree.proofs.laws.objects_are_maps.Goals as goal

pub returns : goal.returns
returns c = record { names = same_names; sets = sets_one_name; removes = removes_one_name; equal = equal_maps }
