use Rattle.jn_node_laws.proofs.Images.{images-fix}
use Rattle.jn_node_laws.proofs.servers_of_one_image_come_up_alike.Goals as goal

pub returns : goal.returns
returns c = images-fix
