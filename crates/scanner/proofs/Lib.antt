mod Keeping
mod Filling
mod Rowing
mod Walking
mod Beginning
mod Stepping
mod Picking
mod Choosing
