pub mod PlaneRows
